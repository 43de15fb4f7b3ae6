use Rattle.std.proofs.Common.{◌++◌, ap, option_map, ◌∙◌}
use Rattle.std.specs.declared.alloc.AllocError.{AllocError}
use Rattle.sj_base.specs.Text.{text}
use Rattle.sj_base.specs.Tree.{string}
use Rattle.sj_owned.specs.Views.{value_tree}
use Rattle.sj_scripts.specs.Script.{path_view}
use Rattle.sj_documents.specs.inside.Documents.{back_of}
use Rattle.sj_documents.proofs.Writing.{write_made, write_forgotten, write_refused}
use Rattle.sj_documents.proofs.document.make_write.Goals as goal

pub returns-in_ok-inverse-in-Possible : goal.returns-in_ok-inverse-in-Possible
returns-in_ok-inverse-in-Possible g c =
    let tree = value_tree g.K.ObjectKey.text g.D.Literal.literal in
    let put = c.in_ok-inverse-in-Possible.ensures in
    write_made AllocError c.args.undo c.args.out.now.items c.put_write_reply.new.out.items (tree c.args.document.now) (tree c.edit_at.new.document) (path_view c.args.path.now) c.args.write (option_map tree c.in-Ok.found) c.in-Ok.ensures
    c.in_ok-inverse-in-Possible.inverse c.in-Possible.is put.path (put.change ∙ ap (back_of c.args.write) c.in_ok-found-in-Possible.ensures) put.reply

pub returns-in_ok-put_taken-in-Impossible : goal.returns-in_ok-put_taken-in-Impossible
returns-in_ok-put_taken-in-Impossible g c =
    let tree = value_tree g.K.ObjectKey.text g.D.Literal.literal in
    write_forgotten AllocError c.args.undo c.args.out.now.items c.put_taken.new.out.items (tree c.args.document.now) (tree c.edit_at.new.document) (path_view c.args.path.now) c.args.write (option_map tree c.in-Ok.found) c.in-Ok.ensures
    c.in-Impossible.is c.in_ok-put_taken-in-Impossible.ensures

pub returns-in-Err-Refused : goal.returns-in-Err-Refused
returns-in-Err-Refused g c =
    let tree = value_tree g.K.ObjectKey.text g.D.Literal.literal in
    let refused = rw c.in-Err-Refused.field-0-is at c.in-Err-Refused.ensures in
    let named = rw c.in-Err-Refused.field-0-is at c.name.ensures in
    write_refused AllocError c.args.undo c.args.out.now.items c.put_string.new.out.items (tree c.args.document.now) (tree c.edit_at.new.document) (path_view c.args.path.now) c.args.write
    _ refused.0 refused.1 (c.in_ok-put_string-in-Err-Refused.ensures ∙ ap (λ w. c.args.out.now.items ++ text (string w)) named)
