-- Scanners may cross threads: no part of one is bound to the thread that made it.
use denote.Param.Send.{IsSend, IsSync, sendable}
use Rattle.std.proofs.Crossing.{crosses}
use Rattle.cell_key.proofs.entries.Entries.TheSendSync as entries
use Rattle.cell_key.proofs.entry.Entry.TheSendSync as entry
use Rattle.iter_config.proofs.config.Config.TheSendSync as config
use Rattle.memory_map.proofs.mem_map.MemMap.TheSendSync as memory
use Rattle.tablet_view.proofs.files.Files.TheSendSync as files
use Rattle.tablet_view.proofs.rope.Rope.TheLaws.TheKnot.{crosses_both}
use Rattle.tablet_view.specs.contracts.log.Log.{the_row as log_row}
use Rattle.tablet_view.specs.contracts.run.Run.{the_row as run_row}
use Rattle.tablet_view.specs.contracts.view.View.{the_row as view_row}
use Rattle.scan_session.specs.contracts.session.Session.{the_row as session_row}
use Rattle.live_tablet.specs.contracts.scan.Scan.{the_row as scan_row}
use Rattle.core.proofs.option.Option.TheSendSync as option
use Rattle.atomic_table.proofs.owned.Table.TheSendSync as table
use Rattle.atomic_table.proofs.send_lease.SendLease.TheSendSync as lease
use Rattle.atomic_table.proofs.shared.Shared.TheSendSync as shared
use Rattle.left_right.proofs.part.Part.TheSendSync as part
use Rattle.left_right.proofs.reader.Reader.TheSendSync as seats
use Rattle.live_tablet.specs.contracts.published.Published.{the_row as published_row}
use Rattle.live_tablet.specs.contracts.reader.LiveReader.{the_row as reader_row}
use Rattle.live_tablet.specs.contracts.scanner.Scanner.{the_row as scanner_row}

run_send : IsSend run_row
run_send = search (crosses_both, entry.the_send, entry.the_sync, entries.the_send, entries.the_sync, crosses, sendable) depth 60 fits 20000

run_sync : IsSync run_row
run_sync = search (crosses_both, entry.the_send, entry.the_sync, entries.the_send, entries.the_sync, crosses, sendable) depth 60 fits 20000

log_send : IsSend log_row
log_send = search (run_send, crosses, sendable) depth 60 fits 20000

log_sync : IsSync log_row
log_sync = search (run_sync, crosses, sendable) depth 60 fits 20000

view_send : IsSend view_row
view_send = search (log_send, log_sync, config.the_send, config.the_sync, memory.the_send, memory.the_sync, files.the_send, files.the_sync, crosses, sendable) depth 60 fits 20000

view_sync : IsSync view_row
view_sync = search (log_send, log_sync, config.the_send, config.the_sync, memory.the_send, memory.the_sync, files.the_send, files.the_sync, crosses, sendable) depth 60 fits 20000

session_send : IsSend session_row
session_send = search (view_send, view_sync, crosses, sendable) depth 60 fits 20000

scan_send : IsSend scan_row
scan_send = search (session_send, crosses, sendable) depth 60 fits 20000

published_sync : IsSync published_row
published_sync = search (view_send, view_sync, crosses, sendable) depth 60 fits 20000

reader_send : IsSend reader_row
reader_send = search (
  option.the_send,
  table.the_send,
  table.the_sync,
  lease.the_send,
  shared.the_send,
  shared.the_sync,
  part.the_send,
  seats.the_send,
  published_sync,
  view_send,
  view_sync,
  crosses,
  sendable,
) depth 60 fits 20000

pub scanner_send : IsSend scanner_row
scanner_send = search (reader_send, scan_send, sendable) depth 60 fits 20000
