-- The text of a container, piece by piece.
use Rattle.std.proofs.Common.{◌≡◌, ℕ, suc, List, [], ◌∷◌, ◌++◌, refl, sym, ap, ◌∙◌, append_assoc}
use Rattle.sj_base.specs.Tree.{Items, no_items, item, Members, no_members, member}
use Rattle.sj_base.specs.Text.{text, more_items_text, more_members_text, quoted, line_break, pretty_at, pretty_more_items, pretty_more_members}
use Rattle.sj_base.specs.Layout.{member_text, opened_list, opened_object, filled, rest_text, item_texts, member_texts}
use Rattle.sj_base.specs.Laws.{LaysOutLists, LaysOutObjects}
use Rattle.sj_base.specs.declared.layout.Layout.TheVariants.{Compact, Indented}

more_items : (ts : Items) → more_items_text ts ++ 0x5d ∷ [] ≡ rest_text (filled (opened_list Compact)) (item_texts Compact ts)
more_items no_items = refl
more_items (item t ts) =
    ap (λ (l : List ℕ). 0x2c ∷ l) (append_assoc (text t) (more_items_text ts) (0x5d ∷ []) ∙ ap (λ (l : List ℕ). text t ++ l) (more_items ts))

more_pretty_items : (level : ℕ) (ts : Items) → pretty_more_items (suc level) ts ++ (line_break level ++ 0x5d ∷ []) ≡ rest_text (filled (opened_list (Indented level))) (item_texts (Indented (suc level)) ts)
more_pretty_items level no_items = refl
more_pretty_items level (item t ts) =
    let before = line_break (suc level) in
    let value = pretty_at (suc level) t in
    let more = pretty_more_items (suc level) ts in
    let end = line_break level ++ 0x5d ∷ [] in
    ap (λ (l : List ℕ). 0x2c ∷ l) (append_assoc before (value ++ more) end
    ∙ ap (λ (l : List ℕ). before ++ l) (append_assoc value more end ∙ ap (λ (l : List ℕ). value ++ l) (more_pretty_items level ts)))

pub lists_laid_out : LaysOutLists
lists_laid_out Compact no_items = refl
lists_laid_out (Indented level) no_items = refl
lists_laid_out Compact (item t ts) =
    ap (λ (l : List ℕ). 0x5b ∷ l) (append_assoc (text t) (more_items_text ts) (0x5d ∷ []) ∙ ap (λ (l : List ℕ). text t ++ l) (more_items ts))
lists_laid_out (Indented level) (item t ts) =
    ap (λ (l : List ℕ). 0x5b ∷ (line_break (suc level) ++ (pretty_at (suc level) t ++ l))) (more_pretty_items level ts)

-- a key, its value and the rest
member_then : (k value more end : List ℕ) → (quoted k ++ 0x3a ∷ (value ++ more)) ++ end ≡ (quoted k ++ 0x3a ∷ value) ++ (more ++ end)
member_then k value more end =
    append_assoc (quoted k) (0x3a ∷ (value ++ more)) end
    ∙ ap (λ (l : List ℕ). quoted k ++ 0x3a ∷ l) (append_assoc value more end)
    ∙ sym (append_assoc (quoted k) (0x3a ∷ value) (more ++ end))

more_members : (ms : Members) → more_members_text ms ++ 0x7d ∷ [] ≡ rest_text (filled (opened_object Compact)) (member_texts Compact ms)
more_members no_members = refl
more_members (member k t ms) =
    ap (λ (l : List ℕ). 0x2c ∷ l) (member_then k (text t) (more_members_text ms) (0x7d ∷ [])
    ∙ ap (λ (l : List ℕ). member_text Compact k t ++ l) (more_members ms))

more_pretty_members : (level : ℕ) (ms : Members) → pretty_more_members (suc level) ms ++ (line_break level ++ 0x7d ∷ []) ≡ rest_text (filled (opened_object (Indented level))) (member_texts (Indented (suc level)) ms)
more_pretty_members level no_members = refl
more_pretty_members level (member k t ms) =
    let before = line_break (suc level) in
    let pair = member_text (Indented (suc level)) k t in
    let more = pretty_more_members (suc level) ms in
    let end = line_break level ++ 0x7d ∷ [] in
    ap (λ (l : List ℕ). 0x2c ∷ l) (append_assoc before (pair ++ more) end
    ∙ ap (λ (l : List ℕ). before ++ l) (append_assoc pair more end ∙ ap (λ (l : List ℕ). pair ++ l) (more_pretty_members level ms)))

pub objects_laid_out : LaysOutObjects
objects_laid_out Compact no_members = refl
objects_laid_out (Indented level) no_members = refl
objects_laid_out Compact (member k t ms) =
    ap (λ (l : List ℕ). 0x7b ∷ l) (member_then k (text t) (more_members_text ms) (0x7d ∷ [])
    ∙ ap (λ (l : List ℕ). member_text Compact k t ++ l) (more_members ms))
objects_laid_out (Indented level) (member k t ms) =
    ap (λ (l : List ℕ). 0x7b ∷ (line_break (suc level) ++ (member_text (Indented (suc level)) k t ++ l))) (more_pretty_members level ms)
