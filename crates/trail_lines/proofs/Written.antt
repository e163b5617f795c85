-- What is written of steps are lines that say these steps.
use Rattle.std.proofs.Common.{◌≡◌, ◌∙◌, ℕ, ◌≤◌, ◌<◌, false, List, [], ◌∷◌, Some, ap, arith, inl, length, refl}
use Rattle.std.specs.Prelude.{codes, option_and_then, slice_get}
use Rattle.std.specs.Fmt.{decimal}
use Rattle.hex.specs.Hex.{encode_upper}
use Rattle.cosem_data.specs.Names.{name_text}
use Rattle.cosem_data.specs.Tree.{Tree, depth}
use Rattle.cosem_data.specs.View.{tree}
use Rattle.cosem_data.specs.declared.data.Data.{Data}
use Rattle.cosem_data.specs.declared.name.LogicalName.{LogicalName}
use Rattle.cosem_axdr.specs.Canonical.{HasLengths, canonical}
use Rattle.cosem_axdr.specs.Laws.{HasRanges}
use Rattle.civil_moment.specs.Texts.{moment_text}
use Rattle.meter_theory.specs.Plan.{Client, Plan}
use Rattle.meter_theory.specs.Sound.{IsSound}
use Rattle.meter_theory.specs.Steps as theory
use Rattle.meter_theory.specs.Times.{IsMoment, Moment}
use Rattle.meter_theory.specs.declared.refs.Descriptor.{Descriptor}
use Rattle.object_model.specs.declared.argument.Argument.{Argument}
use Rattle.object_model.specs.declared.argument.Argument.TheVariants.{Value}
use Rattle.meter_core.specs.StepView.{argument_of}
use Rattle.xdlms_services.specs.Asking.{Asked, asking_at, asking_of}
use Rattle.xdlms_services.specs.Requests.{CanAsk, IsArgumentInRange, IsDescriptorInRange, IsWritableParameter, request_bytes}
use Rattle.xdlms_services.specs.declared.request.Request.TheVariants as requests
use Rattle.xdlms_services.specs.declared.writing.Service.TheVariants as services
use Rattle.xdlms_services.proofs.Shortest.{written_requests_are_read_lem}
use Rattle.line_server.specs.Spelling.{input_cell}
use Rattle.label_certificate.proofs.Joined.{Lacks, lacks_append, lacks_decimal}
use Rattle.step_words.proofs.Bytes.{canonical_bytes}
use Rattle.step_words.proofs.Ranges.{AreBytes}
use Rattle.step_keeping.specs.Keeping.{ticks}
use Rattle.trail_lines.specs.Writing.{IsName, Says, seconds_text, worded}
use Rattle.trail_lines.specs.declared.limits.TheConstants.{MOVE_SECONDS}
use Rattle.step_words.specs.declared.requests.TheConstants.{USUAL_INVOKE}
use Rattle.trail_lines.proofs.Clients.{there}
use Rattle.trail_lines.proofs.Bytes.{hex-lacks, is-line, moment-lacks}
use Rattle.trail_lines.proofs.Steps.{ask-says, capture-says, clock-says, evaluate-says, input-says, lacks_word, name-lacks, name-text-lacks, run-says, seconds-say}

-- a word and what follows have no newline
worded-lacks : (word text : List ℕ) → Lacks 10 word → Lacks 10 text → Lacks 10 (worded word text)
worded-lacks word text w t = lacks_append 10 word (32 ∷ text) w ((λ e. omega arith), t)

pub capture-line : (P : Plan) (n : LogicalName) → IsName n → Says P (theory.CaptureAt n ∷ []) (worded (codes "capture-if-due") (name_text n.0))
capture-line P n h = record {
  is_line = is-line (worded (codes "capture-if-due") (name_text n.0)) (worded-lacks (codes "capture-if-due") (name_text n.0) (lacks_word 10 (codes "capture-if-due") refl) (name-text-lacks 10 (omega arith) n h));
  said = capture-says P n h;
}

pub run-line : (P : Plan) (n : LogicalName) → IsName n → Says P (theory.ScheduleAt n ∷ []) (worded (codes "run-if-due") (name_text n.0))
run-line P n h = record {
  is_line = is-line (worded (codes "run-if-due") (name_text n.0)) (worded-lacks (codes "run-if-due") (name_text n.0) (lacks_word 10 (codes "run-if-due") refl) (name-text-lacks 10 (omega arith) n h));
  said = run-says P n h;
}

pub evaluation-line : (P : Plan) (n : LogicalName) → IsName n → Says P (theory.Evaluate n ∷ []) (worded (codes "eval") (name_text n.0))
evaluation-line P n h = record {
  is_line = is-line (worded (codes "eval") (name_text n.0)) (worded-lacks (codes "eval") (name_text n.0) (lacks_word 10 (codes "eval") refl) (name-text-lacks 10 (omega arith) n h));
  said = evaluate-says P n h;
}

pub clock-line : (P : Plan) (t : Moment) → IsMoment t → Says P (theory.ClockAt t ∷ []) (worded (codes "set-clock") (moment_text t))
clock-line P t h = record {
  is_line = is-line (worded (codes "set-clock") (moment_text t)) (worded-lacks (codes "set-clock") (moment_text t) (lacks_word 10 (codes "set-clock") refl) (moment-lacks 10 (omega arith) t));
  said = clock-says P t h;
}

pub seconds-line : (P : Plan) (n : ℕ) → 1 ≤ n → n ≤ MOVE_SECONDS → Says P (ticks n) (seconds_text n)
seconds-line P n some few = record {
  is_line = is-line (seconds_text n) (worded-lacks (codes "move-clock") (decimal n) (lacks_word 10 (codes "move-clock") refl) (lacks_decimal 10 n (inl (omega arith)) (omega arith)));
  said = seconds-say P n some few;
}

pub input-line : (P : Plan) (n : LogicalName) (t : Tree) → IsName n → HasLengths t → HasRanges t → depth t ≤ 16 →
    Says P (theory.Input (input_cell P n) t ∷ []) (worded (codes "in") (worded (name_text n.0) (encode_upper (canonical t))))
input-line P n t named lengths ranges nested =
    let text = worded (name_text n.0) (encode_upper (canonical t)) in
    record {
      is_line = is-line (worded (codes "in") text) (worded-lacks (codes "in") text (lacks_word 10 (codes "in") refl)
          (worded-lacks (name_text n.0) (encode_upper (canonical t)) (name-text-lacks 10 (omega arith) n named) (hex-lacks 10 refl (canonical t) (canonical_bytes t ranges))));
      said = input-says P n t named lengths ranges nested;
    }

-- the line of a client that sends bytes which ask a step
pub asked-line : (P : Plan) → IsSound P → (c : ℕ) (x : Client) → slice_get P.clients c ≡ Some x → (apdu : List ℕ) → 0 < length apdu → AreBytes apdu →
    (asked : Asked) → asking_at c apdu ≡ Some asked → Says P (asked.step ∷ []) (worded x.name (encode_upper apdu))
asked-line P sound c x is [] some low asked asks = absurd (omega arith)
asked-line P sound c x is (b ∷ bs) some low asked asks = record {
  is_line = is-line (worded x.name (encode_upper (b ∷ bs)))
      (worded-lacks x.name (encode_upper (b ∷ bs)) (name-lacks P 10 refl x.name (sound.client_names x (there P.clients c x is))) (hex-lacks 10 refl (b ∷ bs) low));
  said = ask-says P sound c x is b bs low asked asks;
}

-- what the bytes of a SET and of an ACTION ask

abbrev pub set-asked : ℕ → Descriptor → Data → Asked
set-asked c d v = record { service = services.Set; invoke = USUAL_INVOKE; step = theory.Set c d false (argument_of (Value v)) }

pub set-asks : (c : ℕ) (d : Descriptor) (v : Data) (apdu : List ℕ) → apdu ≡ request_bytes (requests.Set USUAL_INVOKE d false (Value v)) →
    HasLengths (tree v) → depth (tree v) ≤ 16 → IsDescriptorInRange d → HasRanges (tree v) → asking_at c apdu ≡ Some (set-asked c d v)
set-asks c d v apdu is lengths nested named ranges =
    let can : CanAsk (requests.Set USUAL_INVOKE d false (Value v)) = ((refl, (lengths, nested)), (omega arith, named, ranges)) in
    ap (asking_at c) is ∙ ap (option_and_then (asking_of c)) (written_requests_are_read_lem (requests.Set USUAL_INVOKE d false (Value v)) can)

abbrev pub act-asked : ℕ → Descriptor → Argument → Asked
act-asked c d a = record { service = services.Act; invoke = USUAL_INVOKE; step = theory.Act c d (argument_of a) }

pub act-asks : (c : ℕ) (d : Descriptor) (a : Argument) (apdu : List ℕ) → apdu ≡ request_bytes (requests.Act USUAL_INVOKE d a) →
    IsWritableParameter a → IsDescriptorInRange d → IsArgumentInRange a → asking_at c apdu ≡ Some (act-asked c d a)
act-asks c d a apdu is can named ranges =
    ap (asking_at c) is ∙ ap (option_and_then (asking_of c)) (written_requests_are_read_lem (requests.Act USUAL_INVOKE d a) (can, (omega arith, named, ranges)))
