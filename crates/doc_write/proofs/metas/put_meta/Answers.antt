use Rattle.doc_sinks.proofs.Puts.{before, boxed, first, one}
use Rattle.doc_write.proofs.metas.put_meta.Goals as goal

pub returns-clause-puts : goal.returns-clause-puts
returns-clause-puts g c =
    let rows = (first _ _ _ _ c.put_leaf.ensures.puts (before _ _ _ _ c.put_hash.ensures (before _ _ _ _ c.put_titles.ensures.puts (before _ _ _ _ c.put_settings.ensures.puts (before _ _ _ _ c.put_places.ensures.puts (before _ _ _ _ c.put_limits.ensures.puts (before _ _ _ _ c.put_pool.ensures (one _ _ _ (rw c.as_slice.ensures at c.put_items.ensures.puts))))))))) in
    boxed _ _ _ _ c.open.ensures rows c.close.ensures
