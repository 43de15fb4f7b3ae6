use Rattle.std.proofs.Common.{◌≡◌, suc, List, [], ◌∷◌, ◌++◌, ap, ◌∙◌, rules}
use Rattle.std.specs.Vec.Iter.{into_iter_items}
use Rattle.sj_scripts.specs.Command.{Step, commands_from}
use Rattle.sj_scripts.specs.inside.Views.{items_view}
use Rattle.sj_scripts.specs.Script.{command_view, commands_view}
use Rattle.sj_scripts.proofs.ScriptSteps.{read_after, commands-more, view-more}
use Rattle.sj_scripts.proofs.commands.read_command_list.Goals as goal

pub loop-place-preserved : goal.loop-place-preserved
loop-place-preserved c =
    let at = c.loop-place.place-iterator in
    let left = into_iter_items c.next.new.self.iter in
    let first : into_iter_items at.iter ≡ c.in-Some.item ∷ left = search rules in
    let next : c.next.new.self.count ≡ suc at.count = search rules in
    let front : commands_view c.push.new.self.items ≡ commands_view c.loop-place.commands.items ++ command_view c.in-Ok.command ∷ [] = ap commands_view c.in_ok-push-in-Ok.ensures.items ∙ view-more c.loop-place.commands.items c.in-Ok.command in
    let more = commands-more at.count c.next.new.self.count c.in-Some.item (into_iter_items at.iter) left (commands_view c.loop-place.commands.items) (command_view c.in-Ok.command) _ first next c.in-Ok.ensures c.loop-place.invariant in
    ap (λ (cs : List Step). read_after cs (commands_from c.next.new.self.count (items_view left))) front ∙ more
