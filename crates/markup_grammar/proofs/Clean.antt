-- Each step gives pieces alone.
use Rattle.std.proofs.Common.{ℕ, [], ◌∷◌, ◌++◌}
use Rattle.markup_grammar.specs.Machine.{State, step, ref_step, spot_step}
use Rattle.markup_grammar.proofs.Edges.{Edges, edges, in_comments, in_instructions, in_runs, in_tags}
use Rattle.markup_grammar.proofs.Steps.{IsClean}

clean_edges : Edges (λ s at b turn. IsClean turn)
clean_edges = record {
  refused = λ s at b. tt;
  fresh_marked = λ at. tt;
  fresh_opens = λ at. tt;
  fresh_space = λ at b h. tt;
  marked_one = λ at. tt;
  marked_two = λ at. tt;
  opens = λ level at. tt;
  space_before = λ at b h. tt;
  space_behind = λ at b h. tt;
  words_begin = λ name names at b h. tt;
  reference_begins = λ name names at. tt;
  bangs = λ place level at. tt;
  asks = λ place level at. tt;
  root_begins = λ place at b h. tt;
  child_begins = λ place name names at b h. tt;
  slashes = λ place name names at. tt;
  dash_one = λ level at. tt;
  dash_two = λ level at. tt;
  comments = λ dashes level at b. in_comments IsClean dashes level b (λ next. tt) tt;
  instructions = λ asked level at b. in_instructions IsClean asked level b (λ next. tt) tt;
  words_end = λ place raw name names at. tt;
  words_go = λ place raw name names at b h. tt;
  words_refer = λ place raw name names at. tt;
  references = λ r place raw name names at b. in_runs IsClean (ref_step r b) place (raw ++ b ∷ []) name names (λ next. tt) tt tt;
  name_ends = λ place name names at. tt;
  name_slash = λ place name names at. tt;
  name_goes = λ place name names at b h. tt;
  name_space = λ place name names at b h. tt;
  tag_ends = λ spot place name raw names at may. tt;
  tag_slash = λ spot place name raw names at may. tt;
  tag_goes = λ spot place name raw names at b. in_tags IsClean (spot_step spot b) place name (raw ++ b ∷ []) names (λ next. tt) tt;
  empty_ends = λ slash place name raw names at. tt;
  end_ends = λ place names at. tt;
  end_space = λ place names at b h. tt;
  end_goes = λ place c rest names at. tt;
  closed_ends = λ place names at. tt;
  closed_space = λ place names at b h. tt;
}

-- each step gives pieces alone
pub clean : (s : State) (at b : ℕ) → IsClean (step s at b)
clean = edges (λ s at b turn. IsClean turn) clean_edges
