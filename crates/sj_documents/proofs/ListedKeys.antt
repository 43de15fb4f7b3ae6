-- An array of keys, printed one after the other.
use Rattle.std.proofs.Common.{◌≡◌, ℕ, Bool, true, false, List, [], ◌∷◌, ◌++◌, map, Option, Result, Ok, Err, Vec, refl, sym, ap, ◌∙◌, append_assoc, arith}
use Rattle.std.proofs.lemmas.Grind.{common_steps}
use Rattle.std.proofs.lemmas.Iterator.{YieldsList, items_from_drains}
use Rattle.std.proofs.lemmas.List.{append-nil}
use Rattle.std.specs.Borrow.{Bor}
use Rattle.std.specs.Io.{StartsWith}
use Rattle.std.specs.Iterator.{Drains}
use Rattle.std.specs.declared.alloc.Global.{Global}
use Rattle.sj_base.specs.Containers.{member_pairs}
use Rattle.sj_base.specs.Layout.{filled, before_next, end_text}
use Rattle.sj_base.specs.Output.{Prints}
use Rattle.sj_base.specs.Text.{text, quoted, items_text, more_items_text}
use Rattle.sj_base.specs.Tree.{string, list, Items, no_items, item, Members, no_members, member}
use Rattle.sj_base.specs.declared.layout.Container.{Container}
use Rattle.sj_base.specs.declared.layout.Layout.TheVariants.{Compact}
use Rattle.sj_object.specs.declared.entry.Entry.{Entry}
use Rattle.sj_owned.specs.Views.{members_view}
use Rattle.sj_owned.specs.declared.value.Value.{Value}
use Rattle.sj_documents.specs.Step.{key_items}
use Rattle.sj_documents.specs.inside.Documents.{items_left, key_strings, PutsEach}
use Rattle.sj_scripts.specs.inside.Output.{AppendsOrGrows}

-- the keys before further items
abbrev keys_then : List (Bor (List ℕ)) → Items → Items
keys_then [] ts = ts
keys_then (k ∷ ks) ts = item (string k.now) (keys_then ks ts)

keys_more : (ks : List (Bor (List ℕ))) (k : Bor (List ℕ)) (ts : Items) → keys_then (ks ++ k ∷ []) ts ≡ keys_then ks (item (string k.now) ts)
keys_more [] k ts = refl
keys_more (j ∷ ks) k ts = ap (item (string j.now)) (keys_more ks k ts)

keys_end : (ks : List (Bor (List ℕ))) → keys_then ks no_items ≡ key_strings (map (λ k. k.now) ks)
keys_end [] = refl
keys_end (k ∷ ks) = ap (item (string k.now)) (keys_end ks)

-- an array on one line whose opening bracket is printed
abbrev compact_list : Bool → Container
compact_list b = record { layout = Compact; inside = Compact; closing = 0x5d; is_empty = b }

-- The bracket and these keys are printed: any items that follow make up the array with them.
abbrev pub IsPrinted : List (Bor (List ℕ)) → Container → List ℕ → List ℕ → Type 0
IsPrinted ks c old new = (b : Bool) × (c ≡ compact_list b) × ((ts : Items) → new ++ items_left b ts ≡ old ++ 0x5b ∷ items_text (keys_then ks ts))

next_key : (b : Bool) (k : Bor (List ℕ)) (new middle last : List ℕ) (ts : Items) → middle ≡ new ++ before_next (compact_list b) → last ≡ middle ++ quoted k.now
    → last ++ items_left false ts ≡ new ++ items_left b (item (string k.now) ts)
next_key true k new middle last ts next printed =
    ap (λ xs. xs ++ more_items_text ts) (printed ∙ ap (λ xs. xs ++ quoted k.now) (next ∙ append-nil new)) ∙ append_assoc new (quoted k.now) (more_items_text ts)
next_key false k new middle last ts next printed =
    ap (λ xs. xs ++ more_items_text ts) (printed ∙ ap (λ xs. xs ++ quoted k.now) next)
    ∙ append_assoc (new ++ 0x2c ∷ []) (quoted k.now) (more_items_text ts) ∙ append_assoc new (0x2c ∷ []) (quoted k.now ++ more_items_text ts)

pub keys-more : (ks : List (Bor (List ℕ))) (k : Bor (List ℕ)) (c d : Container) (old new middle last : List ℕ) → IsPrinted ks c old new → d ≡ filled c → middle ≡ new ++ before_next c → last ≡ middle ++ quoted k.now
    → IsPrinted (ks ++ k ∷ []) d old last
keys-more ks k c d old new middle last so_far is next printed =
    let b = so_far.0 in (
      false,
      is ∙ ap filled so_far.1,
      λ ts. next_key b k new middle last ts (next ∙ ap (λ (c : Container). new ++ before_next c) so_far.1) printed
          ∙ so_far.2 (item (string k.now) ts) ∙ ap (λ us. old ++ 0x5b ∷ items_text us) (sym (keys_more ks k ts)),
    )

last_bracket : (b : Bool) → end_text (compact_list b) ≡ 0x5d ∷ []
last_bracket true = refl
last_bracket false = refl

pub nothing_left : (b : Bool) → items_left b no_items ≡ []
nothing_left true = refl
nothing_left false = refl

starts_on : (old new taken last : List ℕ) → StartsWith new old → last ≡ new ++ taken → StartsWith last old
starts_on old new taken last starts more = grind (arith, common_steps)

closed_list : (ks : List (Bor (List ℕ))) (c : Container) (old new last : List ℕ) → IsPrinted ks c old new → last ≡ new ++ end_text c → last ≡ old ++ text (list (key_strings (map (λ k. k.now) ks)))
closed_list ks c old new last so_far closed =
    let b = so_far.0 in
    let whole : new ≡ old ++ 0x5b ∷ items_text (key_strings (map (λ k. k.now) ks)) =
    sym (append-nil new) ∙ ap (λ xs. new ++ xs) (sym (nothing_left b)) ∙ so_far.2 no_items ∙ ap (λ us. old ++ 0x5b ∷ items_text us) (keys_end ks) in
    closed ∙ ap (λ (c : Container). new ++ end_text c) so_far.1 ∙ ap (λ xs. new ++ xs) (last_bracket b) ∙ ap (λ xs. xs ++ 0x5d ∷ []) whole
    ∙ append_assoc old (0x5b ∷ items_text (key_strings (map (λ k. k.now) ks))) (0x5d ∷ [])

module _ {S E : Type 0} (steps : S → Option (Bor (List ℕ)) → S → Type 0) (s : S) where
  pub keys-closed : (ks : List (Bor (List ℕ))) (c : Container) (old : List ℕ) (new last : Vec ℕ Global) (r : Result Unit E) → StartsWith new.items old → IsPrinted ks c old new.items → Drains steps s ks
      → Prints (λ (a b : Vec ℕ Global) (xs : List ℕ). b.items ≡ a.items ++ xs) (λ (a b : Vec ℕ Global) (xs : List ℕ). (taken rest : List ℕ) × (xs ≡ taken ++ rest) × (b.items ≡ a.items ++ taken)) r new last (end_text c)
      → PutsEach steps s r old last.items
  keys-closed ks c old new last (Ok done) starts so_far all closed = (ks, all, closed_list ks c old new.items last.items so_far closed)
  keys-closed ks c old new last (Err e) starts so_far all closed = starts_on old new.items closed.0 last.items starts closed.3

  -- what is appended of an object's keys
  pub keys-put : (names : List (List ℕ)) (ms : Members) (old new : List ℕ) (r : Result Unit E) → YieldsList steps (λ k. k.now) s names → key_strings names ≡ key_items ms → PutsEach steps s r old new
      → AppendsOrGrows r old new (text (list (key_items ms)))
  keys-put names ms old new (Ok done) gives same puts =
      let all : map (λ k. k.now) puts.0 ≡ names = items_from_drains puts.0 (puts.1.1.0, puts.1.1.1, λ _. (puts.1.0, puts.1.1.2)) gives in
      puts.2 ∙ ap (λ us. old ++ text (list us)) (ap key_strings all ∙ same)
  keys-put names ms old new (Err e) gives same puts = puts

-- ---- the keys of an object's members

pub strings_of_pairs : (ms : Members) → key_strings (map (λ p. p.0) (member_pairs ms)) ≡ key_items ms
strings_of_pairs no_members = refl
strings_of_pairs (member k t ms) = ap (item (string k)) (strings_of_pairs ms)

pub strings_of_entries : {K D : Type 0} (text : K → List ℕ) (literal : D → List ℕ) (es : List (Entry K (Value K D))) → key_strings (map text (map (λ e. e.key) es)) ≡ key_items (members_view text literal es)
strings_of_entries text literal [] = refl
strings_of_entries text literal (e ∷ es) = ap (item (string (text e.key))) (strings_of_entries text literal es)
