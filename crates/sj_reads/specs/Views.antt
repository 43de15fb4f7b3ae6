-- Results of reads, with the bytes of strings and literals in place of references to them.
use Rattle.std.specs.Prelude.{ℕ, List, Option, Result, Ok, Err, option_map}
use Rattle.std.specs.Borrow.{Bor}
use Rattle.sj_base.specs.Scalar.{decimal_text}
use Rattle.sj_base.specs.declared.decimal.Decimal.{Decimal}
use Rattle.sj_base.specs.declared.fault.TryTypeError.{TryTypeError}

-- the result with its value mapped
abbrev pub ok_map : {A B E : Type 0} → (A → B) → Result A E → Result B E
ok_map f (Ok x) = Ok (f x)
ok_map f (Err e) = Err e

abbrev pub ok_text : Result (Bor (List ℕ)) TryTypeError → Result (List ℕ) TryTypeError
ok_text r = ok_map (λ s. s.now) r

abbrev pub ok_literal : Result Decimal TryTypeError → Result (List ℕ) TryTypeError
ok_literal r = ok_map decimal_text r

abbrev pub found_text : Result (Option (Bor (List ℕ))) TryTypeError → Result (Option (List ℕ)) TryTypeError
found_text r = ok_map (option_map (λ s. s.now)) r

abbrev pub found_literal : Result (Option Decimal) TryTypeError → Result (Option (List ℕ)) TryTypeError
found_literal r = ok_map (option_map decimal_text) r
