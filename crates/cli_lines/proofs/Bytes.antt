-- Cutting a line from the input, byte by byte.
use Rattle.std.proofs.Common.{◌≡◌, ◌≢◌, ◌<◌, ◌≤◌, ◌+◌, ◌==◌, ◌&&◌, ℕ, Bool, true, false, cond, nat_lt, List, [], ◌∷◌, ◌++◌, length, drop, Option, Some, None, refl, sym, ap, subst, ◌∙◌, arith}
use Rattle.std.specs.Prelude.{Ok, Err, Result, codes, is_some, not}
use Rattle.std.proofs.lemmas.Bool.{le-ltb, lt-ltb, ne_eqb}
use Rattle.std.proofs.lemmas.List.{length-append}
use Rattle.secret_core.specs.Secret.{SecretBuffer}
use Rattle.std.specs.Str.{is_utf8}
use Rattle.cli_messages.specs.declared.answers.Reason.TheVariants.{InputEnded, LineForm, LineLimit}
use Rattle.cli_messages.specs.declared.answers.Refusal.{Refusal}
use Rattle.cli_messages.specs.declared.answers.Stop.{Stop}
use Rattle.cli_messages.specs.declared.answers.Stop.TheVariants.{Refused, FileFault, InputFault, NoMemory}
use Rattle.cli_lines.specs.Cutting.{ComesNext, Cuts, Ends, IsPushed, cut, with_bytes}
use Rattle.cli_lines.specs.Lines.{as_text, end_reached, ends_next, line_from, line_of, next_line, some_line, too_long, whole, with_byte}
use Rattle.cli_messages.specs.Messages.{Refuses, refusal_of}
use Rattle.outside_core.specs.Results.{◌>>=◌}
use Rattle.cli_messages.specs.Phases.{StreamAnswer, RefusesStream}

-- ---- bytes in front

with_more : (bs cs : List ℕ) (t : StreamAnswer (List ℕ)) → with_bytes (bs ++ cs) t ≡ with_bytes bs (with_bytes cs t)
with_more [] cs t = refl
with_more (b ∷ bs) cs t = ap (with_byte b) (with_more bs cs t)

still_long : (bs rest : List ℕ) → with_bytes bs (too_long rest) ≡ too_long rest
still_long [] rest = refl
still_long (b ∷ bs) rest = ap (with_byte b) (still_long bs rest)

all_whole : (bs rest : List ℕ) → with_bytes bs (whole rest) ≡ record { answer = Ok bs; left = rest }
all_whole [] rest = refl
all_whole (b ∷ bs) rest = ap (with_byte b) (all_whole bs rest)

-- ---- one byte of a line

-- a byte for which there is room, and which ends no line
room_for : (n b : ℕ) (rest : List ℕ) → (b == 10) ≡ false → (b == 13 && ends_next rest) ≡ false → nat_lt n 4096 ≡ true
    → line_from n (b ∷ rest) ≡ with_byte b (line_from (n + 1) rest)
room_for n b rest p q r =
    ap (λ (x : Bool). cond x (whole rest) (cond (b == 13 && ends_next rest) (whole (drop 1 rest)) (cond (nat_lt n 4096) (with_byte b (line_from (n + 1) rest)) (too_long (cond (b == 13) (drop 1 rest) rest))))) p
    ∙ ap (λ (x : Bool). cond x (whole (drop 1 rest)) (cond (nat_lt n 4096) (with_byte b (line_from (n + 1) rest)) (too_long (cond (b == 13) (drop 1 rest) rest)))) q
    ∙ ap (λ (x : Bool). cond x (with_byte b (line_from (n + 1) rest)) (too_long (cond (b == 13) (drop 1 rest) rest))) r

no_room : (n b : ℕ) (rest : List ℕ) → (b == 10) ≡ false → (b == 13 && ends_next rest) ≡ false → nat_lt n 4096 ≡ false
    → line_from n (b ∷ rest) ≡ too_long (cond (b == 13) (drop 1 rest) rest)
no_room n b rest p q r =
    ap (λ (x : Bool). cond x (whole rest) (cond (b == 13 && ends_next rest) (whole (drop 1 rest)) (cond (nat_lt n 4096) (with_byte b (line_from (n + 1) rest)) (too_long (cond (b == 13) (drop 1 rest) rest))))) p
    ∙ ap (λ (x : Bool). cond x (whole (drop 1 rest)) (cond (nat_lt n 4096) (with_byte b (line_from (n + 1) rest)) (too_long (cond (b == 13) (drop 1 rest) rest)))) q
    ∙ ap (λ (x : Bool). cond x (with_byte b (line_from (n + 1) rest)) (too_long (cond (b == 13) (drop 1 rest) rest))) r

no_end : (b : ℕ) (rest : List ℕ) → (b == 10) ≡ false → (13 == 13 && ends_next (b ∷ rest)) ≡ false
no_end b rest h = h

no_return : (b : ℕ) (rest : List ℕ) → (b == 13) ≡ false → (b == 13 && ends_next rest) ≡ false
no_return b rest h = ap (λ (x : Bool). x && ends_next rest) h

-- one byte more was read, and is at the end
one_more : (line : List ℕ) (b : ℕ) (rest : List ℕ) → with_bytes line (with_byte b (line_from (length line + 1) rest)) ≡ cut (line ++ b ∷ []) false rest
one_more line b rest =
    sym (with_more line (b ∷ []) (line_from (length line + 1) rest))
    ∙ ap (λ n. with_bytes (line ++ b ∷ []) (line_from n rest)) (sym (length-append line (b ∷ [])))

pub return_kept : (line : List ℕ) (b : ℕ) (rest : List ℕ) → b ≢ 10 → length line < 4096 → cut line true (b ∷ rest) ≡ cut (line ++ 13 ∷ []) false (b ∷ rest)
return_kept line b rest h less =
    ap (with_bytes line) (room_for (length line) 13 (b ∷ rest) refl (no_end b rest (ne_eqb b 10 h)) (lt-ltb (length line) 4096 less))
    ∙ one_more line 13 (b ∷ rest)

pub return_long : (line : List ℕ) (b : ℕ) (rest : List ℕ) → b ≢ 10 → 4096 ≤ length line → cut line true (b ∷ rest) ≡ too_long rest
return_long line b rest h full =
    ap (with_bytes line) (no_room (length line) 13 (b ∷ rest) refl (no_end b rest (ne_eqb b 10 h)) (le-ltb (length line) 4096 full))
    ∙ still_long line rest

pub byte_kept : (line : List ℕ) (b : ℕ) (rest : List ℕ) → b ≢ 10 → b ≢ 13 → length line < 4096 → cut line false (b ∷ rest) ≡ cut (line ++ b ∷ []) false rest
byte_kept line b rest h k less =
    ap (with_bytes line) (room_for (length line) b rest (ne_eqb b 10 h) (no_return b rest (ne_eqb b 13 k)) (lt-ltb (length line) 4096 less))
    ∙ one_more line b rest

pub byte_long : (line : List ℕ) (b : ℕ) (rest : List ℕ) → b ≢ 10 → b ≢ 13 → 4096 ≤ length line → cut line false (b ∷ rest) ≡ too_long rest
byte_long line b rest h k full =
    let other : (b == 13) ≡ false = ne_eqb b 13 k in
    ap (with_bytes line) (no_room (length line) b rest (ne_eqb b 10 h) (no_return b rest other) (le-ltb (length line) 4096 full))
    ∙ ap (λ (x : Bool). with_bytes line (too_long (cond x (drop 1 rest) rest))) other
    ∙ still_long line rest

-- ---- the end of a line

pub at_line_feed : (line : List ℕ) (returned : Bool) (rest : List ℕ) → cut line returned (10 ∷ rest) ≡ record { answer = Ok line; left = rest }
at_line_feed line true rest = all_whole line rest
at_line_feed line false rest = all_whole line rest

pub at_end : (line : List ℕ) → Ends true line (cut line false []) []
at_end line = all_whole line []

pub return_at_end : (line : List ℕ) → length line < 4096 → Ends true (line ++ 13 ∷ []) (cut line true []) []
return_at_end line less =
    ap (with_bytes line) (room_for (length line) 13 [] refl refl (lt-ltb (length line) 4096 less))
    ∙ one_more line 13 []
    ∙ all_whole (line ++ 13 ∷ []) []

pub too_long_at_end : (line : List ℕ) → 4096 ≤ length line → Ends false line (cut line true []) []
too_long_at_end line full =
    ap (with_bytes line) (no_room (length line) 13 [] refl refl (le-ltb (length line) 4096 full))
    ∙ still_long line []

-- a line that ends where the input does, behind a carriage return that has room or has none
pub ended : (fits : Bool) (before now : SecretBuffer) → IsPushed fits 13 before now → length before.bytes + before.spare ≡ 4096
    → Ends fits now.bytes (cut before.bytes true []) []
ended true before now h room =
    let less : length before.bytes < 4096 = omega (arith, h.1) in
    subst (λ (bs : List ℕ). Ends true bs (cut before.bytes true []) []) (sym h.0) (return_at_end before.bytes less)
ended false before now h room =
    let full : 4096 ≤ length before.bytes = omega (arith, h.0) in
    subst (λ (bs : List ℕ). Ends false bs (cut before.bytes true []) []) (sym h.1) (too_long_at_end before.bytes full)

-- What is known before a byte is put, when a carriage return that waited was put.
pub record Ready (old now : SecretBuffer) (returned : Bool) (byte : ℕ) : Type 0 where
  pub room : length now.bytes + now.spare ≡ 4096
  pub cuts : (rest : List ℕ) → cut old.bytes returned (byte ∷ rest) ≡ cut now.bytes false (byte ∷ rest)

pub return_put : (old now pushed : SecretBuffer) (returned fits : Bool) (byte : ℕ) → returned ≡ true → fits ≡ true → IsPushed fits 13 old pushed
    → now ≡ pushed → length old.bytes + old.spare ≡ 4096 → byte ≢ 10 → Ready old now returned byte
return_put old now pushed returned fits byte r f h is room other =
    let p = subst (λ (b : Bool). IsPushed b 13 old pushed) f h in
    let less : length old.bytes < 4096 = omega (arith, p.1) in
    let longer : length pushed.bytes ≡ length old.bytes + 1 = ap length p.0 ∙ length-append old.bytes (13 ∷ []) in
    subst (λ (x : SecretBuffer). Ready old x returned byte) (sym is) (record {
      room = omega (arith, p.1);
      cuts = λ rest.
          ap (λ (b : Bool). cut old.bytes b (byte ∷ rest)) r
          ∙ return_kept old.bytes byte rest other less
          ∙ ap (λ (bs : List ℕ). cut bs false (byte ∷ rest)) (sym p.0);
    })

pub no_return_put : (old now : SecretBuffer) (returned : Bool) (byte : ℕ) → returned ≡ false → now ≡ old → length old.bytes + old.spare ≡ 4096
    → Ready old now returned byte
no_return_put old now returned byte r is room =
    subst (λ (x : SecretBuffer). Ready old x returned byte) (sym is) (record {
      room = room;
      cuts = λ rest. ap (λ (b : Bool). cut old.bytes b (byte ∷ rest)) r;
    })

-- the byte is a carriage return, or it was put, or there was no room
pub return_waits : (old now : SecretBuffer) (returned : Bool) (byte : ℕ) → Ready old now returned byte → byte ≡ 13
    → (rest : List ℕ) → cut old.bytes returned (byte ∷ rest) ≡ cut now.bytes true rest
return_waits old now returned byte ready is rest = ready.cuts rest ∙ ap (λ (b : ℕ). cut now.bytes false (b ∷ rest)) is

pub byte_put : (old now pushed : SecretBuffer) (returned fits : Bool) (byte : ℕ) → Ready old now returned byte → byte ≢ 10 → byte ≢ 13
    → fits ≡ true → IsPushed fits byte now pushed
    → (rest : List ℕ) → cut old.bytes returned (byte ∷ rest) ≡ cut pushed.bytes false rest
byte_put old now pushed returned fits byte ready feed other f h rest =
    let p = subst (λ (b : Bool). IsPushed b byte now pushed) f h in
    let less : length now.bytes < 4096 = omega (arith, p.1, ready.room) in
    ready.cuts rest ∙ byte_kept now.bytes byte rest feed other less ∙ ap (λ (bs : List ℕ). cut bs false rest) (sym p.0)

pub byte_refused : (old now pushed : SecretBuffer) (returned fits : Bool) (byte : ℕ) → Ready old now returned byte → byte ≢ 10 → byte ≢ 13
    → fits ≡ false → IsPushed fits byte now pushed
    → (rest : List ℕ) → cut old.bytes returned (byte ∷ rest) ≡ too_long rest
byte_refused old now pushed returned fits byte ready feed other f h rest =
    let p = subst (λ (b : Bool). IsPushed b byte now pushed) f h in
    let full : 4096 ≤ length now.bytes = omega (arith, p.0, ready.room) in
    ready.cuts rest ∙ byte_long now.bytes byte rest feed other full

-- ---- bytes that come

pub came_next : (taken : StreamAnswer (List ℕ)) (line : List ℕ) (returned : Bool) (input : List ℕ) (came : Option ℕ) (next : ℕ) (left : Option (List ℕ))
    → came ≡ Some next → ComesNext (Ok came) input left → taken ≡ cut line returned input
    → (rest : List ℕ) × ((left ≡ Some rest) × (taken ≡ cut line returned (next ∷ rest)))
came_next taken line returned input came next left is h e =
    let n = subst (λ (o : Option ℕ). ComesNext (Ok o) input left) is h in
    (n.0, (n.1.1, e ∙ ap (cut line returned) n.1.0))

pub came_end : (taken : StreamAnswer (List ℕ)) (line : List ℕ) (returned : Bool) (input : List ℕ) (came : Option ℕ) (left : Option (List ℕ)) (fits : Bool) (last : List ℕ)
    → came ≡ None → ComesNext (Ok came) input left → taken ≡ cut line returned input → Ends fits last (cut line returned []) []
    → (rest : List ℕ) × ((left ≡ Some rest) × Ends fits last taken rest)
came_end taken line returned input came left fits last is h e ends =
    let n = subst (λ (o : Option ℕ). ComesNext (Ok o) input left) is h in
    ([], (n.1, subst (λ (t : StreamAnswer (List ℕ)). Ends fits last t []) (sym (e ∙ ap (cut line returned) n.0)) ends))

-- what a line gives that is read from its first byte on
abbrev pub Gets : Bool → ℕ → List ℕ → StreamAnswer (Option (List ℕ)) → List ℕ → Type 0
Gets true number line taken left = taken ≡ some_line (record { answer = as_text number line; left = left })
Gets false number line taken left = taken ≡ record { answer = Err (refusal_of LineLimit (codes "input")); left = left }

gets : (fits : Bool) (number : ℕ) (line : List ℕ) (first : ℕ) (rest left : List ℕ) → Ends fits line (line_from 0 (first ∷ rest)) left
    → Gets fits number line (next_line number (first ∷ rest)) left
gets true number line first rest left e = ap (λ (t : StreamAnswer (List ℕ)). some_line (record { answer = t.answer >>= (as_text number); left = t.left })) e
gets false number line first rest left e = ap (λ (t : StreamAnswer (List ℕ)). some_line (record { answer = t.answer >>= (as_text number); left = t.left })) e

pub line_read : (number : ℕ) (input : List ℕ) (came : Option ℕ) (first : ℕ) (before now : Option (List ℕ)) (result fits : Bool) (line : List ℕ)
    → ComesNext (Ok came) input before → came ≡ Some first
    → ((rest : List ℕ) → before ≡ Some rest → Cuts (Ok result) line now (line_from 0 (first ∷ rest))) → result ≡ fits
    → (rest : List ℕ) × ((now ≡ Some rest) × Gets fits number line (next_line number input) rest)
line_read number input came first before now result fits line h is cuts e =
    let n = subst (λ (o : Option ℕ). ComesNext (Ok o) input before) is h in
    let c = subst (λ (b : Bool). Cuts (Ok b) line now (line_from 0 (first ∷ n.0))) e (cuts n.0 n.1.1) in
    (c.0, (c.1.0, subst (λ (i : List ℕ). Gets fits number line (next_line number i) c.0) (sym n.1.0) (gets fits number line first n.0 c.0 c.1.1)))

-- the input was at its end
pub none_read : (number : ℕ) (input : List ℕ) (came : Option ℕ) (before : Option (List ℕ)) → ComesNext (Ok came) input before → came ≡ None
    → ((next_line number input).answer ≡ Ok None) × (before ≡ Some (next_line number input).left)
none_read number input came before h is =
    let n = subst (λ (o : Option ℕ). ComesNext (Ok o) input before) is h in
    subst (λ (i : List ℕ). ((next_line number i).answer ≡ Ok None) × (before ≡ Some (next_line number i).left)) (sym n.0) (refl, n.1)

-- one byte is read, to see whether there is one
pub end_told : (input : List ℕ) (came : Option ℕ) (none : Bool) (before : Option (List ℕ)) → ComesNext (Ok came) input before → is_some came ≡ not none
    → ((end_reached input).answer ≡ Ok none) × (before ≡ Some (end_reached input).left)
end_told input (Some b) true before h e = cc
end_told input (Some b) false before h e =
    subst (λ (i : List ℕ). ((end_reached i).answer ≡ Ok false) × (before ≡ Some (end_reached i).left)) (sym h.1.0) (refl, h.1.1)
end_told input None true before h e =
    subst (λ (i : List ℕ). ((end_reached i).answer ≡ Ok true) × (before ≡ Some (end_reached i).left)) (sym h.0) (refl, h.1)
end_told input None false before h e = cc

-- a refusal that was told
pub refused_takes : {A : Type 0} (stop : Stop) (refusal : Refusal) (now : Option (List ℕ)) (left : List ℕ) (taken : StreamAnswer A)
    → Refuses stop refusal → taken ≡ record { answer = Err refusal; left = left } → now ≡ Some left → RefusesStream stop now taken
refused_takes (Refused given) refusal now left taken h e l =
    (ap (λ (t : StreamAnswer _). t.answer) e ∙ ap Err (sym h), l ∙ ap (λ (t : StreamAnswer _). Some t.left) (sym e))
refused_takes (FileFault name) refusal now left taken h e l = absurd h
refused_takes InputFault refusal now left taken h e l = absurd h
refused_takes NoMemory refusal now left taken h e l = tt

-- a line in UTF-8, and one that is not
pub text_takes : (number : ℕ) (line : List ℕ) (now : Option (List ℕ)) (left : List ℕ) (taken : StreamAnswer (Option (List ℕ))) → is_utf8 line ≡ true
    → taken ≡ some_line (record { answer = as_text number line; left = left }) → now ≡ Some left → (taken.answer ≡ Ok (Some line)) × (now ≡ Some taken.left)
text_takes number line now left taken text e l = (
  ap (λ (t : StreamAnswer (Option (List ℕ))). t.answer) e ∙ ap (λ (b : Bool). cond b (Ok line) (Err (refusal_of (LineForm number) (codes "input"))) >>= λ line. Ok (Some line)) text,
  l ∙ ap (λ (t : StreamAnswer (Option (List ℕ))). Some t.left) (sym e),
)

pub not_text : (number : ℕ) (line left : List ℕ) (taken : StreamAnswer (Option (List ℕ))) → is_utf8 line ≡ false
    → taken ≡ some_line (record { answer = as_text number line; left = left })
    → taken ≡ record { answer = Err (refusal_of (LineForm number) (codes "input")); left = left }
not_text number line left taken text e =
    e ∙ ap (λ (b : Bool). some_line (record { answer = cond b (Ok line) (Err (refusal_of (LineForm number) (codes "input"))); left = left })) text

-- ---- a line that is due

-- it is there
some_due : (r : Result (List ℕ) Refusal) (line : List ℕ) → (r >>= λ l. Ok (Some l)) ≡ Ok (Some line) → r ≡ Ok line
some_due (Ok l) line h = cc
some_due (Err refusal) line h = cc

pub due_read : (number : ℕ) (input : List ℕ) (found : Option (List ℕ)) (line : List ℕ) (now : Option (List ℕ)) → found ≡ Some line
    → ((next_line number input).answer ≡ Ok found) × (now ≡ Some (next_line number input).left)
    → ((line_of number input).answer ≡ Ok line) × (now ≡ Some (line_of number input).left)
due_read number [] found line now is h = cc
due_read number (b ∷ bs) found line now is h = (some_due (line_of number (b ∷ bs)).answer line (h.0 ∙ ap Ok is), h.1)

-- the input ended before it
never_none : (r : Result (List ℕ) Refusal) → (r >>= λ l. Ok (Some l)) ≡ Ok None → ⊥
never_none (Ok l) h = cc
never_none (Err refusal) h = cc

pub due_missing : (number : ℕ) (input : List ℕ) (found now : Option (List ℕ)) → found ≡ None
    → ((next_line number input).answer ≡ Ok found) × (now ≡ Some (next_line number input).left)
    → (line_of number input ≡ record { answer = Err (refusal_of (InputEnded number) (codes "input")); left = [] }) × (now ≡ Some [])
due_missing number [] found now is h = (refl, h.1)
due_missing number (b ∷ bs) found now is h = absurd (never_none (line_of number (b ∷ bs)).answer (h.0 ∙ ap Ok is))

-- it was refused
some_refused : (r : Result (List ℕ) Refusal) (refusal : Refusal) → (r >>= λ l. Ok (Some l)) ≡ Err refusal → r ≡ Err refusal
some_refused (Ok l) refusal h = cc
some_refused (Err given) refusal h = cc

pub due_stops : (stop : Stop) (number : ℕ) (input : List ℕ) (now : Option (List ℕ)) → RefusesStream stop now (next_line number input)
    → RefusesStream stop now (line_of number input)
due_stops (Refused refusal) number [] now h = let no : Ok None ≡ Err refusal = h.0 in cc
due_stops (Refused refusal) number (b ∷ bs) now h = (some_refused (line_of number (b ∷ bs)).answer refusal h.0, h.1)
due_stops (FileFault name) number input now h = tt
due_stops InputFault number input now h = tt
due_stops NoMemory number input now h = tt
