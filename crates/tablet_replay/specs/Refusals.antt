-- Refusals of configurations and images, as they are written. All of this is this project's own.
use Rattle.std.specs.Prelude.{ℕ, List, ◌++◌, codes}
use Rattle.std.specs.Fmt.{decimal}
use Rattle.iter_config.specs.Faults.{Fault}
use Rattle.iter_config.specs.declared.error.Rule.{Rule}
use Rattle.iter_config.specs.declared.error.Rule.TheVariants.{Toml, Field, Name, Priority, NoScan, NotPrefix, ScanOnly, Order, Overlap, FullUnderVersions}
use Rattle.sorted_file.specs.declared.fault.Fault as image
use Rattle.sorted_file.specs.declared.fault.ImageCause.{ImageCause}
use Rattle.sorted_file.specs.declared.fault.ImageCause.TheVariants as cause

-- a rule by its word
abbrev pub rule_word : Rule → List ℕ
rule_word Toml = codes "toml"
rule_word Field = codes "field"
rule_word Name = codes "name"
rule_word Priority = codes "priority"
rule_word NoScan = codes "K2"
rule_word NotPrefix = codes "K3"
rule_word ScanOnly = codes "K4"
rule_word Order = codes "K5"
rule_word Overlap = codes "K6"
rule_word FullUnderVersions = codes "K7"

-- the rule that is broken, and the number of the iterator that breaks it
abbrev pub config_line : Fault → List ℕ
config_line f = codes "config " ++ rule_word f.rule ++ codes " " ++ decimal f.at ++ codes "\n"

-- a cause by its word
abbrev pub cause_word : ImageCause → List ℕ
cause_word cause.Length = codes "length"
cause_word cause.Magic = codes "magic"
cause_word cause.Version = codes "version"
cause_word cause.Bound = codes "bound"
cause_word cause.Shared = codes "shared"
cause_word cause.Order = codes "order"
cause_word cause.Index = codes "index"
cause_word cause.Tail = codes "tail"

-- why some bytes are no image, and where they cease to be one
abbrev pub image_line : image.Fault → List ℕ
image_line f = codes "image " ++ cause_word f.cause ++ codes " " ++ decimal f.at ++ codes "\n"
