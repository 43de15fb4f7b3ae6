-- The parts of the text, in order.
use Rattle.std.proofs.Common.{◌≡◌, ℕ, List, ◌++◌, refl, ap, ◌∙◌, append_assoc}
use Rattle.std.specs.Prelude.{Some, codes, decimal, encode_utf8}
use Rattle.std.proofs.lemmas.Grind.{put_two}
use Rattle.sj_base.specs.declared.error.Error.{Error}
use Rattle.sj_base.specs.Names.{name_of, error_text}
use Rattle.sj_base.proofs.error.ErrorDisplay.fmt.Goals as goal

abbrev place : List ℕ → ℕ → List ℕ
place name index = name ++ (codes " at character " ++ decimal index)

abbrev quoted : ℕ → List ℕ
quoted c = codes " ('" ++ (encode_utf8 c ++ codes "')")

parts : (e : Error) (name : List ℕ) (c : ℕ) → name ≡ name_of e.error → e.character ≡ Some c → place name e.index ++ quoted c ≡ error_text e
parts e name c named some =
    append_assoc name (codes " at character " ++ decimal e.index) (quoted c)
    ∙ ap (λ (rest : List ℕ). name ++ rest) (append_assoc (codes " at character ") (decimal e.index) (quoted c))
    ∙ rw (named, some) refl

pub returns-in_ok-write-2-clause-writes : goal.returns-in_ok-write-2-clause-writes
returns-in_ok-write-2-clause-writes g c = λ plain ok.
    let e = c.args.self.now in
    let name = c.name-name.result.now in
    let first = c.in_ok-write.ensures.writes plain ok in
    let second = c.in_ok-write-2.ensures.writes first.plain ok in
    put_two g.W.Write.write_str_gives c.args.f.now c.write.new.self c.write-in-Some.new.self (place name e.index) (quoted c.in-Some.character) (error_text e) first second
    (parts e name c.in-Some.character c.name-name.ensures c.in-Some.is)
