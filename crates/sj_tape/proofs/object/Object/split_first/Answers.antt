use Rattle.std.proofs.Common.{◌≡◌, ℕ, ◌-◌, cond, bytes_eq, Some, List, [], ◌∷◌, ◌++◌, rules, ap, sym, ◌∙◌, arith, subst}
use Rattle.sj_base.specs.Tree.{Members, member, AreValidMembers}
use Rattle.sj_tape.specs.Listing.{Entry, string_entry, listing, members_listing}
use Rattle.sj_tape.specs.Nodes.{node_entry, entries}
use Rattle.sj_tape.proofs.Listings.{members_from, lists_members}
use Rattle.sj_tape.specs.Children.{key_text, member_nodes, member_runs}
use Rattle.sj_tape.specs.declared.node.Node.{Node}
use Rattle.sj_tape.proofs.Children.{member_nodes-step, member_nodes-none, member_runs-step, member_runs-none}
use Rattle.sj_tape.proofs.ValidTrees.{members_found, are_valid_members}
use Rattle.sj_tape.proofs.Cutting.{members_front, no_members_left, member_same, cons_parts, string_node}
use Rattle.sj_tape.proofs.object.Object.split_first.Goals as goal

pub returns-then-self-eq0 : goal.returns-then-self-eq0
returns-then-self-eq0 c = record { members = no_members_left c.args.self.now.len (entries c.args.self.now.nodes.now) c.args.self.now.members (omega arith); runs = member_runs-none c.args.self.now.len c.args.self.now.nodes.now (omega arith); found = λ k. member_nodes-none c.args.self.now.len c.args.self.now.nodes.now k (omega arith) }

pub returns-in_err-first : goal.returns-in_err-first
returns-in_err-first c =
    let f = members_front c.args.self.now.len (entries c.args.self.now.nodes.now) c.args.self.now.members (omega arith) in
    let nil : c.args.self.now.nodes.now ≡ [] = search rules in
    absurd (starts f.0 (listing f.1 ++ members_listing f.2) (sym (ap entries nil) ∙ f.4))
  where
    starts : (k : List ℕ) (es : List Entry) → [] ≡ string_entry k ∷ es → ⊥
    starts k es e = cc

pub returns-in_default : goal.returns-in_default
returns-in_default c =
    let f = members_front c.args.self.now.len (entries c.args.self.now.nodes.now) c.args.self.now.members (omega arith) in
    let parts = cons_parts (node_entry c.in_ok-first.first) (string_entry f.0) (entries c.in_ok-first.behind.now) (listing f.1 ++ members_listing f.2) (sym (ap entries c.in_ok-first.ensures) ∙ f.4) in
    let key = string_node c.in_ok-first.first f.0 parts.0 in
    absurd (c.in_default.not-String key.0 key.1)

pub split_from-requires : goal.split_from-requires
split_from-requires c =
    let f = members_front c.args.self.now.len (entries c.args.self.now.nodes.now) c.args.self.now.members (omega arith) in
    let parts = cons_parts (node_entry c.in_ok-first.first) (string_entry f.0) (entries c.in_ok-first.behind.now) (listing f.1 ++ members_listing f.2) (sym (ap entries c.in_ok-first.ensures) ∙ f.4) in
    let are : AreValidMembers (member f.0 f.1 f.2) = subst (λ (ms : Members). AreValidMembers ms) f.3 (members_found _ c.args.self.now.are_valid) in
    (f.1, members_listing f.2, are.1, parts.1)

pub invariant_of-rest : goal.invariant_of-rest
invariant_of-rest c =
    let f = members_front c.args.self.now.len (entries c.args.self.now.nodes.now) c.args.self.now.members (omega arith) in
    let parts = cons_parts (node_entry c.in_ok-first.first) (string_entry f.0) (entries c.in_ok-first.behind.now) (listing f.1 ++ members_listing f.2) (sym (ap entries c.in_ok-first.ensures) ∙ f.4) in
    let both = c.split_from.ensures.tree f.1 (members_listing f.2) parts.1 in
    let are : AreValidMembers (member f.0 f.1 f.2) = subst (λ (ms : Members). AreValidMembers ms) f.3 (members_found _ c.args.self.now.are_valid) in
    record { members = lists_members (entries c.split_from.result.1.now) f.2 (c.args.self.now.len - 1) both.1 f.5; are_valid = are_valid_members (entries c.split_from.result.1.now) f.2 (c.args.self.now.len - 1) both.1 f.5 are.2 }

pub returns : goal.returns
returns c =
    let f = members_front c.args.self.now.len (entries c.args.self.now.nodes.now) c.args.self.now.members (omega arith) in
    let parts = cons_parts (node_entry c.in_ok-first.first) (string_entry f.0) (entries c.in_ok-first.behind.now) (listing f.1 ++ members_listing f.2) (sym (ap entries c.in_ok-first.ensures) ∙ f.4) in
    let both = c.split_from.ensures.tree f.1 (members_listing f.2) parts.1 in
    let key : string_entry f.0 ≡ string_entry c.in-String.key.now = sym parts.0 ∙ ap node_entry c.in-String.is in
    let same_key : c.in-String.key.now ≡ f.0 = cc in
    let ns = c.args.self.now.nodes.now in
    let value = c.split_from.result.0.nodes.now in
    let rest = c.split_from.result.1.now in
    let left = c.args.self.now.len - 1 in
    let front : ns ≡ c.in_ok-first.first ∷ (value ++ rest) = c.in_ok-first.ensures ∙ ap (λ (ms : List Node). c.in_ok-first.first ∷ ms) c.split_from.ensures.parts in
    let listed : entries value ≡ listing f.1 = c.split_from.ensures.first f.1 (members_listing f.2) parts.1 in
    record { members = f.3 ∙ sym (member_same _ _ _ _ _ _ same_key both.0 (members_from (entries rest) f.2 left both.1 f.5)); runs = member_runs-step c.args.self.now.len ns value rest c.in_ok-first.first f.1 front listed (omega arith) ∙ ap (λ (m : Node). (key_text m, value) ∷ member_runs left rest) c.in-String.is; found = λ k. member_nodes-step c.args.self.now.len ns value rest c.in_ok-first.first f.1 k front listed (omega arith) ∙ ap (λ (m : Node). cond (bytes_eq (key_text m) k) (Some value) (member_nodes left rest k)) c.in-String.is }
