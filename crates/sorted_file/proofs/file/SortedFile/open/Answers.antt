use Rattle.sorted_file.proofs.Opening.{opened}
use Rattle.sorted_file.proofs.file.SortedFile.open.Goals as goal

pub invariant_of-result : goal.invariant_of-result
invariant_of-result c =
    let read = c.in_ok-version.ensures in
    (opened (record { version = c.in_ok-version.field-0.version; bytes = c.args.bytes; blocks = c.in_ok-version.field-0.blocks; count = c.in_ok-version.field-0.count }) c.bytes-2.result.now c.bytes-2.ensures
    (record { shape = read.shape; blocks_are = read.blocks; image = read.image; list = read.list })).0

pub returns : goal.returns
returns c =
    let read = c.in_ok-version.ensures in
    (opened (record { version = c.in_ok-version.field-0.version; bytes = c.args.bytes; blocks = c.in_ok-version.field-0.blocks; count = c.in_ok-version.field-0.count }) c.bytes-2.result.now c.bytes-2.ensures
    (record { shape = read.shape; blocks_are = read.blocks; image = read.image; list = read.list })).1
