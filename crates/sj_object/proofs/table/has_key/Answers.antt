use Rattle.std.proofs.Common.{◌≡◌, Some, get_or, slice_get, bytes_eq, List, ℕ, refl, sym, ap, ◌∙◌}
use Rattle.std.proofs.lemmas.Bool.{ltb-true, ltb-false}
use Rattle.std.proofs.lemmas.Option.{slice_get-get_or, slice_get_past}
use Rattle.sj_object.specs.declared.entry.Entry.{Entry}
use Rattle.sj_object.proofs.table.has_key.Goals as goal

pub returns-in-Some : goal.returns-in-Some
returns-in-Some g c =
    let es = c.args.entries.now in
    let e = c.in-Some.entry.now in
    let lookup = c.in-Some.ensures.lookup in
    let here : get_or es c.args.place e ≡ e = cc (lookup.1) in
    let found : slice_get es c.args.place ≡ Some e = slice_get-get_or es c.args.place e (ltb-true _ _ (sym lookup.0)) ∙ ap (λ (x : Entry g.row.K.Denot g.row.V.Denot). Some x) here in
    rw found (c.eq.ensures ∙ ap (λ (text : List ℕ). bytes_eq text c.args.key.now) c.as_text.ensures)

pub returns-in-None : goal.returns-in-None
returns-in-None g c = rw (slice_get_past c.args.entries.now c.args.place (ltb-false _ _ (sym c.in-None.ensures.lookup.0))) refl
