-- Texts that are read one after the other.
use Rattle.std.proofs.Common.{◌≡◌, ℕ, List, [], ◌∷◌, ◌++◌, length, map, Result, Ok, Err, refl, sym, ap, subst, ◌∙◌, append_assoc}
use Rattle.std.specs.Prelude.{◌≢◌, OnOk}
use Rattle.std.proofs.lemmas.List.{append-nil, map-append}
use Rattle.sj_scripts.specs.declared.script.Command.{Command}
use Rattle.sj_scripts.specs.declared.script.Command.TheVariants.{Get, Contains, TypeOf, Len, Keys, Insert, Remove, Push, Pop, SetAt, Undo, Reload, ReloadPp}
use Rattle.sj_scripts.specs.Script.{command_view}
use Rattle.sj_documents.specs.Step.{Job, State}
use Rattle.sj_parse.specs.Answers.{buffer_texts, buffer_positions}
use Rattle.sj_parse.specs.declared.buffers.Buffers.{Buffers}
use Rattle.sj_records.specs.Texts.{reread, AreTextsOf, AreTexts, LeavesPositions, HasRead, HasReadLines}

-- what holds whatever a call answers
pub if_ok : {A E P : Type 0} (r : Result A E) → P → OnOk r P
if_ok (Ok x) h = h
if_ok (Err e) h = tt

-- ---- the positions that are left

-- Where a text was read, those before don't matter.
whatever_before : (bytes : List ℕ) (others : List (List ℕ)) (a b c : List ℕ) → LeavesPositions (bytes ∷ others) b c → LeavesPositions (bytes ∷ others) a c
whatever_before bytes [] a b c h = h
whatever_before bytes (next ∷ others) a b c h = whatever_before next others a b c h

positions-then : (xs ys : List (List ℕ)) (a b c : List ℕ) → LeavesPositions xs a b → LeavesPositions ys b c → LeavesPositions (xs ++ ys) a c
positions-then xs [] a b c h k = rw append-nil (subst (λ (p : List ℕ). LeavesPositions xs a p) (sym k) h)
positions-then [] (y ∷ ys) a b c h k = whatever_before y ys a b c k
positions-then (x ∷ []) (y ∷ ys) a b c h k = whatever_before y ys a b c k
positions-then (x ∷ next ∷ xs) (y ∷ ys) a b c h k = positions-then (next ∷ xs) (y ∷ ys) a b c h k

-- ---- texts

pub HasRead-nothing : (a : Buffers) → HasRead a a []
HasRead-nothing a = (sym (append-nil (buffer_texts a)), refl)

pub HasRead-then : (a b c : Buffers) (xs ys : List (List ℕ)) → HasRead a b xs → HasRead b c ys → HasRead a c (xs ++ ys)
HasRead-then a b c xs ys h k = (
  k.0 ∙ ap (λ (ns : List ℕ). ns ++ map length ys) h.0 ∙ append_assoc (buffer_texts a) (map length xs) (map length ys) ∙ ap (λ (ns : List ℕ). buffer_texts a ++ ns) (sym (map-append length xs ys)),
  positions-then xs ys (buffer_positions a) (buffer_positions b) (buffer_positions c) h.1 k.1,
)

-- A command that is no reload reads none.
pub none_reread : (c : Command) (s : State) → c ≢ Reload → c ≢ ReloadPp → reread s (command_view c) ≡ []
none_reread (Get path) s a b = refl
none_reread (Contains path k) s a b = refl
none_reread (TypeOf path) s a b = refl
none_reread (Len path) s a b = refl
none_reread (Keys path) s a b = refl
none_reread (Insert path k v) s a b = refl
none_reread (Remove path k) s a b = refl
none_reread (Push path v) s a b = refl
none_reread (Pop path) s a b = refl
none_reread (SetAt path v) s a b = refl
none_reread Undo s a b = refl
none_reread Reload s a b = absurd (a refl)
none_reread ReloadPp s a b = absurd (b refl)

-- ---- those of lines

module _ (job : Job) where
  AreTexts-append : (ls ms x y : List (List ℕ)) → AreTexts job ls x → AreTexts job ms y → AreTexts job (ls ++ ms) (x ++ y)
  AreTexts-append [] ms x y h k = rw h k
  AreTexts-append (l ∷ ls) ms x y h k = (h.0, h.1 ++ y, ap (λ ts. ts ++ y) h.2 ∙ append_assoc h.0 h.1 y, h.3, AreTexts-append ls ms h.1 y h.4 k)

  pub HasReadLines-nothing : (a : Buffers) → HasReadLines job a a []
  HasReadLines-nothing a = ([], refl, HasRead-nothing a)

  pub HasReadLines-one : (a b : Buffers) (line : List ℕ) (texts : List (List ℕ)) → AreTextsOf job line texts → HasRead a b texts → HasReadLines job a b (line ∷ [])
  HasReadLines-one a b line texts are read = (texts, (texts, [], sym (append-nil texts), are, refl), read)

  pub HasReadLines-then : (a b c : Buffers) (ls ms : List (List ℕ)) → HasReadLines job a b ls → HasReadLines job b c ms → HasReadLines job a c (ls ++ ms)
  HasReadLines-then a b c ls ms h k = (h.0 ++ k.0, AreTexts-append ls ms h.0 k.0 h.1 k.1, HasRead-then a b c h.0 k.0 h.2 k.2)
