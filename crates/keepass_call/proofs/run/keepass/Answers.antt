use Rattle.std.proofs.Common.{◌≡◌, None, Ok, Err, map, refl, sym, ◌∙◌}
use Rattle.std.specs.Prelude.{string_bytes}
use Rattle.session_run.specs.CliCommands.SeenChange.{output_text}
use Rattle.cli_pages.specs.Pages.{page_of}
use Rattle.cli_pages.proofs.Openings.{opening_no_page}
use Rattle.keepass_call.proofs.Answered.{ends_as}
use Rattle.keepass_call.proofs.Calls.{no_none, no_some, page_call, printed_call, starved_call, starved_page, stopped_call}
use Rattle.keepass_call.proofs.SessionCases.{starved_session}
use Rattle.keepass_call.proofs.run.keepass.Goals as goal

pub returns-in-Ok-Some-clause-call : goal.returns-in-Ok-Some-clause-call
returns-in-Ok-Some-clause-call g c = λ unopened.
    page_call (map string_bytes c.args.words.now) c.args.now c.in-Ok-Some.page c.print_page.result _ _ _ _ _ (sym c.in-Ok-Some.ensures.page ∙ c.in-Ok-Some.field-0-is)
    c.print_page.ensures.printed
    (λ zero. record {
      files = refl;
      input = refl;
      out = (c.print_page.ensures.faultless zero).0;
      err = (c.print_page.ensures.faultless zero).1;
      dice = refl;
    })

pub returns-in-Ok-Some-clause-session : goal.returns-in-Ok-Some-clause-session
returns-in-Ok-Some-clause-session g c = λ database opens.
    absurd (no_none c.in-Ok-Some.page _ (sym c.in-Ok-Some.ensures.page ∙ c.in-Ok-Some.field-0-is) (opening_no_page (map string_bytes c.args.words.now) database opens))

pub returns-in-Err-clause-call : goal.returns-in-Err-clause-call
returns-in-Err-clause-call g c = λ unopened. starved_page (map string_bytes c.args.words.now) c.args.now _ _ c.in-Err.ensures.memory

pub returns-in-Err-clause-session : goal.returns-in-Err-clause-session
returns-in-Err-clause-session g c = λ database opens.
    absurd (no_some _ c.in-Err.ensures.memory (opening_no_page (map string_bytes c.args.words.now) database opens))

pub returns-in-Err-read_opening-clause-call : goal.returns-in-Err-read_opening-clause-call
returns-in-Err-read_opening-clause-call g c = λ unopened.
    starved_call (map string_bytes c.args.words.now) c.args.now _ _ (sym c.in-Ok-None.ensures.page ∙ c.in-Ok-None.field-0-is)

pub returns-in-Err-read_opening-clause-session : goal.returns-in-Err-read_opening-clause-session
returns-in-Err-read_opening-clause-session g c = λ database opens. starved_session database c.args.now _ _

pub returns-in-Ok-clause-call : goal.returns-in-Ok-clause-call
returns-in-Ok-clause-call g c = λ unopened.
    let none : page_of (map string_bytes c.args.words.now) ≡ None = sym c.in-Ok-None.ensures.page ∙ c.in-Ok-None.field-0-is in
    printed_call (map string_bytes c.args.words.now) c.args.now (output_text c.in-Ok.output) c.print.result _ _ _ _
    (record {
      gives = λ w t. ends_as (map string_bytes c.args.words.now) c.args.now w (Ok c.in-Ok.output) _ _ _ _ none (c.in-Ok.ensures.told t.truthful w t.files t.input t.dice);
      left = λ w t. c.in-Ok.ensures.left t.truthful.input w.input t.input;
      wrote = rw c.lend_text.ensures at c.print.ensures.printed;
      faultless = λ zero. record {
        files = c.in-Ok.ensures.faultless.0;
        input = c.in-Ok.ensures.faultless.1;
        out = (c.print.ensures.faultless zero).0;
        err = (c.print.ensures.faultless zero).1;
        dice = c.in-Ok.ensures.faultless.2;
      };
      draft = c.in-Ok.ensures.draft;
      held = λ n w t. c.in-Ok.ensures.held n.no_standalone t.truthful w t.files t.input t.dice;
      unwritten = c.in-Ok.ensures.unwritten;
      undrawn = c.in-Ok.ensures.undrawn;
      stream = c.in-Ok.ensures.stream;
      some_file = λ n. c.in-Ok.ensures.some_file n.no_standalone;
      page = λ text is. absurd (no_none text _ is none);
    })

pub returns-in-Err-answer_words-clause-call : goal.returns-in-Err-answer_words-clause-call
returns-in-Err-answer_words-clause-call g c = λ unopened.
    let none : page_of (map string_bytes c.args.words.now) ≡ None = sym c.in-Ok-None.ensures.page ∙ c.in-Ok-None.field-0-is in
    stopped_call (map string_bytes c.args.words.now) c.args.now c.report.result _ _ _ _ c.in-Err-answer_words.stop
    (record {
      gives = λ w t. ends_as (map string_bytes c.args.words.now) c.args.now w (Err c.in-Err-answer_words.stop) _ _ _ _ none (c.in-Err-answer_words.ensures.told t.truthful w t.files t.input t.dice);
      left = λ w t. c.in-Err-answer_words.ensures.left t.truthful.input w.input t.input;
      kept = c.in-Err-answer_words.ensures.kept;
      written = refl;
      draft = c.in-Err-answer_words.ensures.draft;
      unwritten = c.in-Err-answer_words.ensures.unwritten;
      undrawn = c.in-Err-answer_words.ensures.undrawn;
      stream = c.in-Err-answer_words.ensures.stream;
      caused = c.in-Err-answer_words.ensures.cause;
      told = c.report.ensures.reported;
      no_page = none;
      unread = c.in-Err-answer_words.ensures.unread;
      unasked = c.in-Err-answer_words.ensures.unasked;
      wrong = c.in-Err-answer_words.ensures.wrong;
    })
