use Rattle.std.specs.Prelude.{map, string_bytes}
use Rattle.cli_parse.proofs.Keys.{has_key, has_key_after, has_profile, has_target_key}
use Rattle.cli_parse.proofs.commands.read_words.Goals as goal

pub returns-in-Ok-clause-has_key : goal.returns-in-Ok-clause-has_key
returns-in-Ok-clause-has_key c = has_key (map string_bytes c.args.words.now) c.in-Ok.command c.in-Ok.ensures

pub returns-in-Ok-clause-has_target_key : goal.returns-in-Ok-clause-has_target_key
returns-in-Ok-clause-has_target_key c = has_target_key (map string_bytes c.args.words.now) c.in-Ok.command c.in-Ok.ensures

pub returns-in-Ok-clause-has_profile : goal.returns-in-Ok-clause-has_profile
returns-in-Ok-clause-has_profile c = has_profile (map string_bytes c.args.words.now) c.in-Ok.command c.in-Ok.ensures

pub returns-in-Ok-clause-has_key_after : goal.returns-in-Ok-clause-has_key_after
returns-in-Ok-clause-has_key_after c = has_key_after (map string_bytes c.args.words.now) c.in-Ok.command c.in-Ok.ensures
