use Rattle.std.specs.Prelude.{codes}
use Rattle.doc_sinks.proofs.Puts.{first}
use Rattle.doc_spelling.specs.Values.{id_piece}
use Rattle.doc_write.proofs.PutOptions.{put_no, put_some}
use Rattle.doc_write.proofs.icons.put_icon_names.Goals as goal

pub returns-in-Some-clause-puts : goal.returns-in-Some-clause-puts
returns-in-Some-clause-puts g c =
    first _ _ _ _ c.put_number.ensures.puts (put_some _ _ (id_piece (codes "CustomIconUUID")) c.args.custom_icon _ c.in-Some.is c.put_id.ensures.puts)

pub returns-in-None-clause-puts : goal.returns-in-None-clause-puts
returns-in-None-clause-puts g c =
    first _ _ _ _ c.put_number.ensures.puts (put_no _ (id_piece (codes "CustomIconUUID")) c.args.custom_icon c.in-None.is)
