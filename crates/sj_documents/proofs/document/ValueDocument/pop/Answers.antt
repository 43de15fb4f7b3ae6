use Rattle.sj_documents.proofs.document.ValueDocument.pop.Goals as goal

pub returns : goal.returns
returns g c = c.make_write.ensures
