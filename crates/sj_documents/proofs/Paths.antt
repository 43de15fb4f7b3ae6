-- Paths that are copied part by part.
use Rattle.std.proofs.Common.{◌≡◌, ℕ, ◌+◌, ◌<◌, ◌≤◌, List, [], ◌∷◌, ◌++◌, length, get_or, drop, refl, sym, ap, ◌∙◌, arith}
use Rattle.std.proofs.lemmas.List.{append-nil, drop_more, drop_all}
use Rattle.sj_base.specs.Path.{Part}
use Rattle.sj_scripts.specs.Script.{part_view, path_view}
use Rattle.sj_scripts.specs.declared.path.PathPart.{PathPart}

view_last : (copy : List PathPart) (c : PathPart) (rest : List Part) → path_view (copy ++ c ∷ []) ++ rest ≡ path_view copy ++ part_view c ∷ rest
view_last [] c rest = refl
view_last (p ∷ copy) c rest = ap (λ ps. part_view p ∷ ps) (view_last copy c rest)

pub part_copied : (path copy : List PathPart) (i : ℕ) (p c : PathPart) → i < length path → p ≡ get_or path i p → part_view c ≡ part_view p → path_view copy ++ path_view (drop i path) ≡ path_view path
    → path_view (copy ++ c ∷ []) ++ path_view (drop (i + 1) path) ≡ path_view path
part_copied path copy i p c lt is same so_far =
    let left : path_view (drop i path) ≡ part_view p ∷ path_view (drop (i + 1) path) = ap path_view (drop_more path i p lt) ∙ ap (λ q. part_view q ∷ path_view (drop (i + 1) path)) (sym is) in
    view_last copy c (path_view (drop (i + 1) path)) ∙ ap (λ q. path_view copy ++ q ∷ path_view (drop (i + 1) path)) same ∙ ap (λ ps. path_view copy ++ ps) (sym left) ∙ so_far

pub path_copied : (path copy : List PathPart) (i : ℕ) → length path ≤ i → path_view copy ++ path_view (drop i path) ≡ path_view path → path_view copy ≡ path_view path
path_copied path copy i end so_far =
    sym (append-nil (path_view copy)) ∙ ap (λ ps. path_view copy ++ ps) (sym (ap path_view (drop_all i path (omega arith)))) ∙ so_far
