use Rattle.std.proofs.Common.{ap, []}
use Rattle.std.specs.Option.{option_copied}
use Rattle.std.specs.Prelude.{codes}
use Rattle.doc_spelling.specs.Pieces.{base64_piece}
use Rattle.doc_write.proofs.PutOptions.{put_no, put_some}
use Rattle.doc_write.proofs.metas.put_named_hash.Goals as goal

pub returns-in-Some : goal.returns-in-Some
returns-in-Some g c = put_some _ _ (base64_piece (codes "HeaderHash") []) (option_copied c.args.hash) _ (ap option_copied c.in-Some.is) c.put_coded.ensures.puts

pub returns-in-None : goal.returns-in-None
returns-in-None g c = put_no _ (base64_piece (codes "HeaderHash") []) (option_copied c.args.hash) (ap option_copied c.in-None.is)
