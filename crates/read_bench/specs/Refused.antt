-- The documents that a pass refuses.
use Rattle.std.specs.Prelude.{ℕ, Bool, ◌||◌, nat_lt, List, length, count_by, is_some, Vec}
use Rattle.std.specs.declared.alloc.Global.{Global}
use Rattle.sj_base.specs.Spelling.{longest}
use Rattle.sj_base.specs.declared.TheConstants.{DEFAULT_MAX_DEPTH}
use Rattle.sj_scan.specs.Scan.{scan_fault}
use Rattle.sj_parse.specs.Fault.{fault}
use Rattle.read_bench.specs.declared.arguments.Kind.{Kind}
use Rattle.read_bench.specs.declared.arguments.Kind.TheVariants.{Tape, Plain, Owned, Borrowed, Scan, Print}

-- Reading the document finds a fault.
unfoldable pub is_refused : List ℕ → Bool
is_refused bytes = is_some (fault bytes DEFAULT_MAX_DEPTH)

-- The document is too long for a scan, or a scan of it finds a fault.
unfoldable pub is_refused_by_scan : List ℕ → Bool
is_refused_by_scan bytes = nat_lt longest (length bytes) || is_some (scan_fault bytes)

abbrev pub tapes_refused : List (Vec ℕ Global) → ℕ
tapes_refused documents = count_by (λ document. is_refused document.items) documents

abbrev pub scans_refused : List (Vec ℕ Global) → ℕ
scans_refused documents = count_by (λ document. is_refused_by_scan document.items) documents

-- the number of documents that a pass of this kind refuses
abbrev pub refused_by : Kind → List (Vec ℕ Global) → ℕ
refused_by Tape documents = tapes_refused documents
refused_by Plain documents = tapes_refused documents
refused_by Owned documents = tapes_refused documents
refused_by Borrowed documents = tapes_refused documents
refused_by Scan documents = scans_refused documents
refused_by Print documents = tapes_refused documents
