-- What a parse of the program's words gives, and the kind of its error.
use Rattle.std.proofs.Common.{◌≡◌, ℕ, List, Option, Some, None, Result, Ok, Err, true, codes, option_map, refl, sym, ◌∙◌}
use Rattle.std.specs.Prelude.{option_and_then}
use Rattle.std.specs.Borrow.{Bor}
use Rattle.std.specs.Result.{result_ok}
use Rattle.std.specs.Str.Parse.{ParsesUnsigned}
use Rattle.std.proofs.lemmas.Option.{same_Some}
use Rattle.clap.specs.Words.{App, first_of, first_value, found_of, rows_of, fault_of, is_simple_and_free, HasMatchesOf}
use Rattle.clap.specs.declared.parser.matches.ArgMatches.{ArgMatches}
use Rattle.clap.specs.declared.parser.matches.Found.{Found}
use Rattle.clap.specs.Walk.{Row}
use Rattle.clap.proofs.WalkLemmas.{first_value-rows}
use Rattle.records_program.specs.Arguments.{Hold, IsNumber, app, form_named, repeats_named, kinds_of, rows_in}
use Rattle.records_program.specs.declared.arguments.RunArguments.{RunArguments}

pub rows_in-parse : (a : App) (words : List (List ℕ)) (m : ArgMatches) → a ≡ app → HasMatchesOf a words m → rows_of (found_of m) ≡ rows_in words
unfolding rows_in
rows_in-parse a words m e h = ((rw e at h) refl).0

pub app-free : (a : App) → a ≡ app → is_simple_and_free a ≡ true
app-free a e = rw e refl

pub kinds_of-app : (a : App) (words : List (List ℕ)) → a ≡ app → fault_of a words ≡ kinds_of words
unfolding kinds_of
kinds_of-app a words e = rw e refl

-- the value of an argument, by the rows
pub value-some : (f : Found) (id : List ℕ) (o : Option (Bor (List ℕ))) (s : Bor (List ℕ)) → option_map (λ s. s.now) o ≡ first_value f id → o ≡ Some s → first_of id (rows_of f) ≡ Some s.now
value-some f id o s reads is = sym (rw is at (reads ∙ first_value-rows f id))

pub value-none : (f : Found) (id : List ℕ) (o : Option (Bor (List ℕ))) → option_map (λ s. s.now) o ≡ first_value f id → o ≡ None → first_of id (rows_of f) ≡ None
value-none f id o reads is = sym (rw is at (reads ∙ first_value-rows f id))

-- a text is a number exactly where it is parsed
pub parsed-number : {E : Type 0} (text : List ℕ) (n : ℕ) (r : Result ℕ E) → ParsesUnsigned 64 10 text r → result_ok r ≡ Some n → IsNumber text n
parsed-number text n (Ok m) parses is =
    let same : m ≡ n = same_Some m n is in
    (parses.0.0, sym parses.1 ∙ same, rw (← same, parses.1) parses.0.1)
parsed-number text n (Err e) parses is = absurd cc

pub refused-number : {E : Type 0} (text : List ℕ) (n : ℕ) (r : Result ℕ E) → ParsesUnsigned 64 10 text r → result_ok r ≡ None → IsNumber text n → ⊥
refused-number text n (Ok m) parses is number = absurd cc
refused-number text n (Err f) parses is number = parses (number.0, rw number.1 number.2)

-- no run has values that aren't there, or that name no form or no rule
pub no-script : (rows : List Row) (run : RunArguments) → first_of (codes "SCRIPT") rows ≡ None → Hold rows run → ⊥
no-script rows run none h = let some = h.0 in absurd cc

pub no-form : (rows : List Row) (run : RunArguments) → option_and_then form_named (first_of (codes "form") rows) ≡ None → Hold rows run → ⊥
no-form rows run none h = let some = h.1 in absurd cc

pub no-rule : (rows : List Row) (run : RunArguments) → option_and_then repeats_named (first_of (codes "repeats") rows) ≡ None → Hold rows run → ⊥
no-rule rows run none h = let some = h.2 in absurd cc

pub no-depth : (rows : List Row) (run : RunArguments) → first_of (codes "depth") rows ≡ None → Hold rows run → ⊥
no-depth rows run none h = let some = h.3.1 in absurd cc

pub no-number : {E : Type 0} (rows : List Row) (run : RunArguments) (text : List ℕ) (r : Result ℕ E) → first_of (codes "depth") rows ≡ Some text → ParsesUnsigned 64 10 text r → result_ok r ≡ None → Hold rows run → ⊥
no-number rows run text r is parses refused h =
    let same : h.3.0 ≡ text = let some = h.3.1 in cc in
    refused-number text run.depth r parses refused (rw same at h.3.2)
