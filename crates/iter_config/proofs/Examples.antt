-- Worked documents.
use Rattle.std.proofs.Common.{◌≡◌, ℕ, true, false, List, [], ◌∷◌, ◌++◌, Ok, Err, codes, refl}
use Rattle.tablet_model.specs.Stages.{newest}
use Rattle.iter_config.specs.Document.{config_of}
use Rattle.iter_config.specs.Faults.{fault}
use Rattle.iter_config.specs.Settings.{Settings}
use Rattle.iter_config.specs.Stages.{stages_of}
use Rattle.iter_config.specs.declared.iter_spec.IterSpec.{IterSpec}
use Rattle.iter_config.specs.declared.iter_spec.Kind.TheVariants.{Versions}
use Rattle.iter_config.specs.declared.error.Rule.TheVariants.{Toml, Field, Name, Priority, NoScan, NotPrefix, Overlap}
use Rattle.iter_config.proofs.OnLiterals.{config_on_literals}

-- an iterator that keeps some versions in scans
versions : List ℕ → ℕ → ℕ → IterSpec
versions name priority max = record { name = name; priority = priority; kind = Versions max; scopes = record { scan = true; minc = false; majc = false } }

-- its table
vers : List ℕ
vers = codes "[[iterator]]\nname = \"vers\"\npriority = 20\nkind = \"versions\"\nmax = 1\nscopes = [\"scan\"]\n"

-- another table
first : List ℕ
first = codes "[[iterator]]\nname = \"first\"\npriority = 3\nkind = \"versions\"\nmax = 1000\nscopes = [\"scan\"]\n"

-- a configuration without timed families
plain : List IterSpec → Settings
plain specs = record { iterators = specs; timed = [] }

empty : config_of [] ≡ Ok (plain [])
unfolding config_on_literals plain
empty = refl

one : config_of vers ≡ Ok (plain (versions (codes "vers") 20 1 ∷ []))
unfolding config_on_literals plain versions vers
one = refl

-- the lower priority comes first
two : config_of (vers ++ first) ≡ Ok (plain (versions (codes "first") 3 1000 ∷ versions (codes "vers") 20 1 ∷ []))
unfolding config_on_literals plain versions vers first
two = refl

their_stages : stages_of (plain (versions (codes "first") 3 1000 ∷ versions (codes "vers") 20 1 ∷ [])) ≡ newest 1000 ∷ newest 1 ∷ []
unfolding plain versions
their_stages = refl

no_document : config_of (codes "[[") ≡ Err (fault Toml 0)
unfolding config_on_literals
no_document = refl

other_key : config_of (codes "colour = 1") ≡ Err (fault Field 0)
unfolding config_on_literals
other_key = refl

-- a family whose puts bring times of their own
timed_family : config_of (codes "timed = [\"t\"]") ≡ Ok (record { iterators = []; timed = codes "t" ∷ [] })
unfolding config_on_literals
timed_family = refl

no_names : config_of (codes "timed = 1") ≡ Err (fault Field 0)
unfolding config_on_literals
no_names = refl

-- the document's own fault comes before that of an iterator
document_first : config_of (codes "timed = []\n[[iterator]]\nname = \"vers\"\npriority = 20\nkind = \"versions\"\nmax = 0\nscopes = [\"scan\"]\n") ≡ Err (fault Field 0)
unfolding config_on_literals
document_first = refl

no_versions : config_of (codes "[[iterator]]\nname = \"vers\"\npriority = 20\nkind = \"versions\"\nmax = 0\nscopes = [\"scan\"]\n") ≡ Err (fault Field 1)
unfolding config_on_literals
no_versions = refl

no_scan : config_of (codes "[[iterator]]\nname = \"vers\"\npriority = 20\nkind = \"versions\"\nmax = 1\nscopes = [\"majc\"]\n") ≡ Err (fault NoScan 1)
unfolding config_on_literals
no_scan = refl

-- the number is that of the document, and the rule that of the order of priorities
no_prefix :
    config_of (codes "[[iterator]]\nname = \"vers\"\npriority = 20\nkind = \"versions\"\nmax = 1\nscopes = [\"scan\", \"minc\"]\n[[iterator]]\nname = \"f\"\npriority = 10\nkind = \"family\"\nfamilies = [\"a\"]\nscopes = [\"scan\"]\n")
    ≡ Err (fault NotPrefix 1)
unfolding config_on_literals
no_prefix = refl

-- `n` lists `n:x`
overlap :
    config_of (codes "[[iterator]]\nname = \"s\"\npriority = 10\nkind = \"sum\"\ncolumns = [\"n\"]\nencoding = \"string\"\nscopes = [\"scan\"]\n[[iterator]]\nname = \"t\"\npriority = 11\nkind = \"sum\"\ncolumns = [\"n:x\"]\nencoding = \"string\"\nscopes = [\"scan\"]\n")
    ≡ Err (fault Overlap 2)
unfolding config_on_literals
overlap = refl

same_twice : config_of (vers ++ vers) ≡ Err (fault Name 2)
unfolding config_on_literals vers
same_twice = refl

same_priority : config_of (vers ++ codes "[[iterator]]\nname = \"w\"\npriority = 20\nkind = \"versions\"\nmax = 1\nscopes = [\"scan\"]\n") ≡ Err (fault Priority 2)
unfolding config_on_literals vers
same_priority = refl
