use Rattle.doc_sinks.proofs.Puts.{boxed, first, one}
use Rattle.doc_write.proofs.metas.put_protection.Goals as goal

pub returns : goal.returns
returns g c =
    boxed _ _ _ _ c.open.ensures (first _ _ _ _ c.put_bool.ensures (first _ _ _ _ c.put_bool-2.ensures (first _ _ _ _ c.put_bool-3.ensures (first _ _ _ _ c.put_bool-4.ensures (one _ _ _ c.put_bool-5.ensures))))) c.close.ensures
