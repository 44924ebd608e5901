use Rattle.tree_contents.proofs.ProperContents.{lent_text}
use Rattle.tree_contents.proofs.texts.values_are_utf8.Goals as goal

pub returns : goal.returns
returns c = record {
  title = c.given_text_is_utf8.ensures;
  user = c.given_text_is_utf8-2.ensures;
  password = lent_text c.args.values.now.password c.requires;
  url = c.given_text_is_utf8-3.ensures;
  notes = c.given_text_is_utf8-4.ensures;
}
