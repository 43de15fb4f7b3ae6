use Rattle.std.proofs.Common.{◌≡◌, ◌<◌, ℕ, Option, None, length, take, refl, subst, ap, ◌∙◌, arith, rules}
use Rattle.std.proofs.lemmas.List.{length-set, get_or_default, take_all}
use Rattle.std.proofs.Math.Seq.{map-set_same}
use Rattle.std.specs.Prelude.{get_or}
use Rattle.sj_object.specs.declared.table.Link.{Link}
use Rattle.sj_object.specs.inside.Chains.{home, head_of, AreChained}
use Rattle.sj_object.proofs.Chains.{chained_none, chained_next, same_length}
use Rattle.sj_object.proofs.table.Table.relink.Goals as goal

abbrev record_of : ℕ → Option ℕ → Link
record_of h n = record { hash = h; next = n }

pub loop-place-init : goal.loop-place-init
loop-place-init c =
    let heads = c.fill.new.self in
    let some : 0 < length heads.items = omega (arith, c.fill.ensures.len, c.requires) in
    let empty = c.fill.ensures.items (λ y e. search rules) in
    (some, refl, refl, λ ks have. (have, chained_none _ heads.items some empty))

pub loop-place-preserved : goal.loop-place-preserved
loop-place-preserved c =
    let heads = c.loop-place.self.heads.items in
    let links = c.loop-place.self.links.items in
    let i = c.loop-place.place in
    let x = c.index_mut-in-loop-place.result.now in
    let within : i < length links = omega (arith, c.loop-place-test.true, c.len-place-end.ensures, c.loop-place.invariant.1) in
    let link = get_or links i x in
    let hash : x.hash ≡ link.hash = ap (λ (l : Link). l.hash) c.index_mut-in-loop-place.ensures.value in
    let at : c.home-home.result ≡ home (length heads) link.hash =
    c.home-home.ensures.home ∙ ap (λ (l : Link). home (length heads) l.hash) (c.index.ensures ∙ get_or_default links i c.index.result.now x within) in
    let next : c.replace.result ≡ head_of heads link.hash =
    c.replace.ensures.value ∙ c.index_mut.ensures.value ∙ get_or_default heads c.home-home.result c.index_mut.result.now None c.home-home.ensures.within ∙ ap (λ n. get_or heads n None) at in
    let new : record_of x.hash c.replace.result ≡ record_of link.hash (head_of heads link.hash) = ap (λ h. record_of h c.replace.result) hash ∙ ap (record_of link.hash) next in (
      omega (arith, length-set heads c.home-home.result c.replace.new.dest, c.loop-place.invariant.0),
      length-set links i (record_of x.hash c.replace.result) ∙ c.loop-place.invariant.1,
      c.loop-place.invariant.2,
      λ ks have.
          let old = c.loop-place.invariant.3 ks have in (
            map-set_same (λ (l : Link). l.hash) links i (record_of x.hash c.replace.result) x hash ∙ old.0,
            rw (at, c.replace.ensures.after, new) (chained_next heads links ks i x within old.0 old.1),
          ),
    )

pub returns-clause-table : goal.returns-clause-table
returns-clause-table c = λ ks have.
    let is = c.loop-place.invariant.3 ks have in
    let links = c.loop-place.self.links.items in
    let i = c.loop-place.place in
    let all = take_all i links (omega (arith, c.loop-place-test.false, c.len-place-end.ensures, c.loop-place.invariant.1)) in
    let keys = take_all i ks (omega (arith, c.loop-place-test.false, c.len-place-end.ensures, c.loop-place.invariant.1, same_length links ks is.0)) in
    subst (λ ls. AreChained c.loop-place.self.heads.items ls ks) all (subst (λ l. AreChained c.loop-place.self.heads.items (take i links) l) keys is.1)
