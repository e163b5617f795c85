use Rattle.std.proofs.Common.{◌≡◌, true, false, ◌&&◌, ◌++◌, List, [], ℕ, drop, sym, ap, subst, ◌∙◌, append_assoc, ◌+◌, get_or, None}
use Rattle.std.specs.Io.KnownBytes.{Appends}
use Rattle.std.proofs.KnownBytes.{Appends-trans}
use Rattle.std.proofs.lemmas.List.{take_rest}
use Rattle.std.proofs.lemmas.Result.{err_from_is_err_and}
use Rattle.trail_words.specs.Pieces.{foot_text, step_text}
use Rattle.trail_words.specs.Wanting as wanting
use Rattle.trail_words.specs.declared.steps.TrailStep.{TrailStep}
use Rattle.trail_words.proofs.Passing.{Waits, last, passed, stopped}
use Rattle.trail_words.proofs.Pieces.{and-left, and-right, first-left, first-taken, left_text, none-left, pieces-text, pieces_text}
use Rattle.trail_words.proofs.writing.write_steps.Goals as goal
use Rattle.trail_words.proofs.writing.write_steps.Goals.{then-is_new_here+then-is_by+in_ok-write_step, else-is_new_here, else-is_new_here-via-then-is_new_here+else-is_by, else-is_new_here-via-else-is_new_here}

-- a step where there is none
abbrev nothing : TrailStep
nothing = record { seconds = None; note = record { ref_ptr = (0, 0); now = [] }; line = record { ref_ptr = (0, 0); now = [] } }

pub returns-in_err-write_step : goal.returns-in_err-write_step
returns-in_err-write_step g c =
    let p = err_from_is_err_and c.from_residual-in_err-write_step.result c.from_residual-in_err-write_step.ensures.1 in
    let form = c.args.form in
    let head = c.args.head.now in
    let w = c.args.wanted.now in
    let steps = c.args.steps.now in
    let k = c.loop-number.number in
    let later = c.loop-number.is_later in
    let before = c.loop-number.invariant in
    let text = step_text form later (get_or steps k nothing) in
    let taken = first-taken form later w steps k nothing c.loop-number-test.true (sym before.new ∙ c.if-is_new_here.true) (sym c.is_by.ensures ∙ c.if-is_by.true) in
    rw (p.1, p.2, ← pieces-text form head (wanting.wanted_of w steps))
    (stopped (pieces_text form head (wanting.wanted_of w steps)) (left_text form later w steps k ++ foot_text form head) text (left_text form true w steps (k + 1) ++ foot_text form head)
    c.loop-number.waiting.items c.write_step.new.waiting.items (g.W.Write.contents c.args.output.now) (g.W.Write.contents c.loop-number.output) (g.W.Write.contents c.write_step.new.output) c.in_err-write_step.field-0.0 before.text
    (ap (λ (t : List ℕ). t ++ foot_text form head) taken ∙ append_assoc text (left_text form true w steps (k + 1)) (foot_text form head)) c.in_err-write_step.ensures)

pub loop-number-preserved : goal.loop-number-preserved
loop-number-preserved g c =
    let form = c.args.form in
    let head = c.args.head.now in
    let w = c.args.wanted.now in
    let steps = c.args.steps.now in
    let k = c.loop-number.number in
    let less = c.loop-number-test.true in
    let later = c.loop-number.is_later in
    let before = c.loop-number.invariant in
    let step = get_or steps k nothing in
    let text = step_text form later step in
    let whole = pieces_text form head (wanting.wanted_of w steps) in
    record {
      text = elim c.if-is_new_here.branch [
        | then-is_new_here+then-is_by+in_ok-write_step b ↦
            let taken = first-taken form later w steps k nothing less (sym before.new ∙ b.if-is_new_here.true) (sym b.is_by.ensures ∙ b.if-is_by.true) in
            rw (b.output-is, b.waiting-is, b.is_later-is)
            (passed whole (left_text form later w steps k ++ foot_text form head) text (left_text form true w steps (k + 1) ++ foot_text form head) c.loop-number.waiting.items b.write_step.new.waiting.items
            (g.W.Write.contents c.args.output.now) (g.W.Write.contents c.loop-number.output) (g.W.Write.contents b.write_step.new.output) tt before.text
            (ap (λ (t : List ℕ). t ++ foot_text form head) taken ∙ append_assoc text (left_text form true w steps (k + 1)) (foot_text form head)) b.in_ok-write_step.ensures)
        | else-is_new_here b ↦
            let here = wanting.is_new w.since (drop k steps) in
            let by = wanting.is_by (wanting.client_wanted w) step.line.now in
            let other : (here && by) ≡ false = elim b.else-is_new_here.branch [
              | else-is_new_here-via-then-is_new_here+else-is_by b' ↦ and-right here by (sym b'.is_by.ensures ∙ b'.if-is_by.false)
              | else-is_new_here-via-else-is_new_here b' ↦ and-left here by (sym before.new ∙ b'.if-is_new_here.false)
            ] in
            rw (b.output-is, b.waiting-is, b.is_later-is)
            (subst (λ (left : List ℕ). Waits whole (left ++ foot_text form head) c.loop-number.waiting.items (g.W.Write.contents c.args.output.now) (g.W.Write.contents c.loop-number.output))
            (first-left form later w steps k nothing less other) before.text)
      ];
      new = c.is_new_behind-is_new_here.ensures ∙ ap (wanting.is_new w.since) (take_rest steps (k + 1));
    }

pub returns-in_err-push_foot : goal.returns-in_err-push_foot
returns-in_err-push_foot g c =
    let p = err_from_is_err_and c.from_residual-in_err-push_foot.result c.from_residual-in_err-push_foot.ensures.1 in
    let before = c.loop-number.invariant.text in
    rw (p.1, p.2, ← pieces-text c.args.form c.args.head.now (wanting.wanted_of c.args.wanted.now c.args.steps.now))
    (before.front, c.loop-number.waiting.items ++ (left_text c.args.form c.loop-number.is_later c.args.wanted.now c.args.steps.now c.loop-number.number ++ foot_text c.args.form c.args.head.now), before.is, before.written, tt)

pub returns-in_err-write_waiting : goal.returns-in_err-write_waiting
returns-in_err-write_waiting g c =
    let p = err_from_is_err_and c.from_residual-in_err-write_waiting.result c.from_residual-in_err-write_waiting.ensures.1 in
    let form = c.args.form in
    let head = c.args.head.now in
    let w = c.args.wanted.now in
    let steps = c.args.steps.now in
    let before = c.loop-number.invariant.text in
    let waiting = c.loop-number.waiting.items in
    let full = c.push_foot.new.text.items in
    let cut = c.in_err-write_waiting.ensures.err in
    let all = c.in_ok-push_foot.ensures ∙ ap (λ (t : List ℕ). waiting ++ (t ++ foot_text form head)) (sym (none-left form c.loop-number.is_later w steps c.loop-number.number c.loop-number-test.false)) in
    rw (p.1, p.2, ← pieces-text form head (wanting.wanted_of w steps)) (
      before.front ++ cut.0,
      cut.1,
      last (pieces_text form head (wanting.wanted_of w steps)) (left_text form c.loop-number.is_later w steps c.loop-number.number ++ foot_text form head) waiting full
          (g.W.Write.contents c.args.output.now) (g.W.Write.contents c.loop-number.output) before all ∙ ap (λ (t : List ℕ). before.front ++ t) cut.2 ∙ sym (append_assoc before.front cut.0 cut.1),
      Appends-trans (g.W.Write.contents c.args.output.now) (g.W.Write.contents c.loop-number.output) (g.W.Write.contents c.write_waiting.new.writer) before.front cut.0 before.written cut.3,
      cut.4,
    )

pub returns : goal.returns
returns g c =
    let form = c.args.form in
    let head = c.args.head.now in
    let w = c.args.wanted.now in
    let steps = c.args.steps.now in
    let before = c.loop-number.invariant.text in
    let waiting = c.loop-number.waiting.items in
    let full = c.push_foot.new.text.items in
    let all = c.in_ok-push_foot.ensures ∙ ap (λ (t : List ℕ). waiting ++ (t ++ foot_text form head)) (sym (none-left form c.loop-number.is_later w steps c.loop-number.number c.loop-number-test.false)) in
    subst (Appends (g.W.Write.contents c.args.output.now) (g.W.Write.contents c.write_waiting.new.writer))
    (sym (last (pieces_text form head (wanting.wanted_of w steps)) (left_text form c.loop-number.is_later w steps c.loop-number.number ++ foot_text form head) waiting full
    (g.W.Write.contents c.args.output.now) (g.W.Write.contents c.loop-number.output) before all) ∙ pieces-text form head (wanting.wanted_of w steps))
    (Appends-trans (g.W.Write.contents c.args.output.now) (g.W.Write.contents c.loop-number.output) (g.W.Write.contents c.write_waiting.new.writer) before.front full before.written c.in_ok-write_waiting.ensures.ok)
