-- What was written of a step says that step.
use Rattle.std.proofs.Common.{◌≡◌, ◌≢◌, ◌∙◌, ℕ, ◌+◌, ◌&&◌, ◌||◌, ◌==◌, ◌≤◌, ◌<◌, Bool, true, false, not, cond, eqb, List, [], ◌∷◌, None, Some, ap, arith, inl, length, map, option_map, refl, subst, sym, drop}
use Rattle.std.specs.Prelude.{codes, nat_le, option_and_then, slice_get, if◌then◌else◌}
use Rattle.std.specs.Fmt.{decimal}
use Rattle.std.specs.List.{cons_option, list_all}
use Rattle.std.specs.Option.{option_map_or}
use Rattle.std.specs.Str.{bytes_eq}
use Rattle.std.proofs.lemmas.Bool.{and_parts, eq-eqb, le-leb, ne_eqb, not-true, or_parts, true≢false}
use Rattle.std.proofs.lemmas.List.{append-nil}
use Rattle.std.proofs.lemmas.List.Elements.{recursion_from_All}
use Rattle.std.proofs.lemmas.Slice.Eq.{bytes_eq-Decides}
use Rattle.hex.specs.Hex.{encode_upper}
use Rattle.cosem_data.specs.Names.{name_text}
use Rattle.cosem_data.specs.Tree.{Tree, depth}
use Rattle.cosem_data.specs.View.{data_of, tree-data_of}
use Rattle.cosem_data.specs.declared.cell.CellRef.{CellRef}
use Rattle.cosem_data.specs.declared.data.Data.{Data}
use Rattle.cosem_data.specs.declared.name.LogicalName.{LogicalName}
use Rattle.cosem_data.proofs.Decimals.{text_gives}
use Rattle.cosem_axdr.specs.Canonical.{HasLengths, canonical}
use Rattle.cosem_axdr.specs.Laws.{HasRanges}
use Rattle.cosem_axdr.specs.Reading.{data_at}
use Rattle.cosem_axdr.proofs.Prefixes.{written_is_read}
use Rattle.civil_moment.specs.Texts.{moment_text}
use Rattle.meter_theory.specs.ClientNames.{is_client_name, is_name_byte, is_step_word, may_be_named}
use Rattle.meter_theory.specs.declared.limits.TheConstants.{NAME_CHARACTERS}
use Rattle.meter_theory.specs.Plan.{Client, Plan, client_named}
use Rattle.meter_theory.specs.Sound.{IsSound}
use Rattle.meter_theory.specs.Steps as theory
use Rattle.meter_theory.specs.Times.{IsMoment, Moment}
use Rattle.value_text.specs.Texts.{name_in, value_in, whole}
use Rattle.value_words.proofs.Decimals.{number_gives}
use Rattle.xdlms_services.specs.Asking.{Asked, asking_at}
use Rattle.line_server.specs.Answering.{Take, steps_of}
use Rattle.line_server.specs.Asking.{Ask}
use Rattle.line_server.specs.Spelling.{ask_of, asked_by, begins_ticks, digits_fault, ends_in_return, evaluation_of, first_space, input_at, input_cell, input_of, line_of, said_at, said_by, with_return}
use Rattle.line_server.specs.declared.line.Line.TheVariants as lines
use Rattle.label_certificate.proofs.Joined.{IsNoNameByte, Lacks, lacks_name, names_lack}
use Rattle.step_words.proofs.Bytes.{canonical_bytes}
use Rattle.step_words.proofs.Ranges.{AreBytes}
use Rattle.step_keeping.specs.Keeping.{ticks}
use Rattle.trail_lines.specs.Reading.{capture_of, clock_of, own_by, run_of, says, seconds_in, seconds_of, trail_line_of, trail_tasks}
use Rattle.trail_lines.specs.Writing.{IsName, worded}
use Rattle.trail_lines.specs.declared.limits.TheConstants.{MOVE_SECONDS}
use Rattle.trail_lines.specs.declared.line.TrailLine.TheVariants.{CaptureIfDue, MoveClock, RunIfDue, Said, SetClock}
use Rattle.trail_lines.proofs.Bytes.{hex-again, moment-again}
use Rattle.trail_lines.proofs.Clients.{client-is, there}
use Rattle.trail_lines.proofs.Spaces.{own-said, space-is, step-said, text-is, word-is}

-- a word without a byte
pub lacks_word : (c : ℕ) (word : List ℕ) → list_all (λ b. not (eqb b c)) word ≡ true → Lacks c word
lacks_word c [] h = tt
lacks_word c (b ∷ word) h =
    let both = and_parts (not (eqb b c)) (list_all (λ x. not (eqb x c)) word) h in
    ((λ e. true≢false (sym (eq-eqb b c e) ∙ not-true (eqb b c) both.0)), lacks_word c word both.1)

-- a byte that is no digit and no dot stands in no name
pub name-text-lacks : (c : ℕ) → c < 46 → (n : LogicalName) → IsName n → Lacks c (name_text n.0)
name-text-lacks c low n h = lacks_name c n.0 (inl (omega arith)) (λ e. omega arith) (recursion_from_All (λ b. b < 256) n.0 h.bytes)

-- Step lines

module _ (P : Plan) where
  -- what a step line says by its first word and what follows
  line-said : (b : ℕ) (bs text : List ℕ) → b ≢ 35 → Lacks 32 (b ∷ bs) →
      line_of P (worded (b ∷ bs) text) ≡ with_return (ends_in_return (worded (b ∷ bs) text)) (said_by P (b ∷ bs) text)
  line-said b bs text other h =
      let line = worded (b ∷ bs) text in
      let r = ends_in_return line in
      ap (λ t. if t then lines.Skipped else with_return r (said_at P line (first_space line))) (ne_eqb b 35 other)
      ∙ ap (λ k. with_return r (said_at P line k)) (space-is (b ∷ bs) text h)
      ∙ ap (λ w. with_return r (said_by P w (drop (length (b ∷ bs) + 1) line))) (word-is (b ∷ bs) text)
      ∙ ap (λ t. with_return r (said_by P (b ∷ bs) t)) (text-is (b ∷ bs) text)

  -- a word of step lines: no line of a trail alone begins with it
  said-is : (b : ℕ) (bs text : List ℕ) → b ≢ 35 → Lacks 32 (b ∷ bs) → own_by (b ∷ bs) text ≡ None →
      trail_line_of P (worded (b ∷ bs) text) ≡ Said (with_return (ends_in_return (worded (b ∷ bs) text)) (said_by P (b ∷ bs) text))
  said-is b bs text other h none = step-said P (b ∷ bs) text h none ∙ ap Said (line-said b bs text other h)

  -- Clients

  -- a text that lacks a byte is none that has it
  differs : (text word : List ℕ) → (bytes_eq text word ≡ true → ⊥) → bytes_eq text word ≡ false
  differs text word other = at (bytes_eq text word) refl
    where
      at : (b : Bool) → bytes_eq text word ≡ b → b ≡ false
      at true is = absurd (other is)
      at false is = refl

  -- no client's name begins a line of a trail alone, since it has no hyphen
  none-own : (name text : List ℕ) → Lacks 45 name → own_by name text ≡ None
  none-own name text h =
      let set = differs name (codes "set-clock") (λ e. (subst (Lacks 45) ((bytes_eq-Decides name (codes "set-clock")).0 e) h).1.1.1.0 refl) in
      let move = differs name (codes "move-clock") (λ e. (subst (Lacks 45) ((bytes_eq-Decides name (codes "move-clock")).0 e) h).1.1.1.1.0 refl) in
      let capture = differs name (codes "capture-if-due") (λ e. (subst (Lacks 45) ((bytes_eq-Decides name (codes "capture-if-due")).0 e) h).1.1.1.1.1.1.1.0 refl) in
      let run = differs name (codes "run-if-due") (λ e. (subst (Lacks 45) ((bytes_eq-Decides name (codes "run-if-due")).0 e) h).1.1.1.0 refl) in
      rw (set, move, capture, run) refl

  swapped : (a b : Bool) → (a && b) ≡ false → (b && a) ≡ false
  swapped true true e = e
  swapped true false e = refl
  swapped false true e = refl
  swapped false false e = refl

  -- what stands behind the name of a client is what it asks
  client-said : (name text : List ℕ) → may_be_named P.version name ≡ true → said_by P name text ≡ asked_by (client_named P name) name text
  client-said name text h =
      let both = and_parts (is_client_name name) (not ((P.version == 2) && bytes_eq name (codes "tick"))) h in
      let short = and_parts (nat_le 1 (length name)) (nat_le (length name) NAME_CHARACTERS && (list_all is_name_byte name && not (is_step_word name))) both.0 in
      let plain = and_parts (nat_le (length name) NAME_CHARACTERS) (list_all is_name_byte name && not (is_step_word name)) short.1 in
      let bytes = and_parts (list_all is_name_byte name) (not (is_step_word name)) plain.1 in
      let words = or_parts (bytes_eq name (codes "in")) (bytes_eq name (codes "at") || bytes_eq name (codes "eval")) (not-true (is_step_word name) bytes.1) in
      let others = or_parts (bytes_eq name (codes "at")) (bytes_eq name (codes "eval")) words.1 in
      let tick : begins_ticks P name ≡ false = swapped (P.version == 2) (bytes_eq name (codes "tick")) (not-true ((P.version == 2) && bytes_eq name (codes "tick")) both.1) in
      rw (words.0, others.1, others.0, tick) refl

  -- an APDU that a client asks by
  asked-is : (name : List ℕ) (c b : ℕ) (bs : List ℕ) → AreBytes (b ∷ bs) → asked_by (Some c) name (encode_upper (b ∷ bs)) ≡ lines.Ask (record { client = c; apdu = b ∷ bs })
  asked-is name c b bs low = ap (λ o. option_map_or (ask_of c) o (lines.Unreadable (digits_fault (encode_upper (b ∷ bs))))) (hex-again (b ∷ bs) low)

  ask-kept : (r : Bool) (ask : Ask) → with_return r (lines.Ask ask) ≡ lines.Ask ask
  ask-kept true ask = refl
  ask-kept false ask = refl

  pub name-lacks : (n : ℕ) → IsNoNameByte n → (name : List ℕ) → may_be_named P.version name ≡ true → Lacks n name
  name-lacks n none name h = (names_lack n (name ∷ []) none (ap (λ b. b && true) (and_parts (is_client_name name) (not ((P.version == 2) && bytes_eq name (codes "tick"))) h).0)).0

  -- the line of a client says what it asks
  ask-line : (name : List ℕ) (c b : ℕ) (bs : List ℕ) → may_be_named P.version name ≡ true → client_named P name ≡ Some c → AreBytes (b ∷ bs) →
      trail_line_of P (worded name (encode_upper (b ∷ bs))) ≡ Said (lines.Ask (record { client = c; apdu = b ∷ bs }))
  ask-line [] c b bs h place low = absurd cc
  ask-line (n ∷ ns) c b bs h place low =
      let text = encode_upper (b ∷ bs) in
      let r = ends_in_return (worded (n ∷ ns) text) in
      said-is n ns text (name-lacks 35 refl (n ∷ ns) h).0 (name-lacks 32 refl (n ∷ ns) h) (none-own (n ∷ ns) text (name-lacks 45 refl (n ∷ ns) h))
      ∙ ap (λ l. Said (with_return r l)) (client-said (n ∷ ns) text h ∙ ap (λ o. asked_by o (n ∷ ns) text) place ∙ asked-is (n ∷ ns) c b bs low)
      ∙ ap Said (ask-kept r (record { client = c; apdu = b ∷ bs }))

  pub ask-says : IsSound P → (c : ℕ) (x : Client) → slice_get P.clients c ≡ Some x → (b : ℕ) (bs : List ℕ) → AreBytes (b ∷ bs) →
      (asked : Asked) → asking_at c (b ∷ bs) ≡ Some asked → says P (worded x.name (encode_upper (b ∷ bs))) ≡ asked.step ∷ []
  ask-says sound c x is b bs low asked asks =
      ap (λ l. steps_of (trail_tasks P l)) (ask-line x.name c b bs (sound.client_names x (there P.clients c x is)) (client-is P sound c x is) low)
      ∙ ap (λ o. cons_option (option_map (λ a. a.step) o) []) asks

  -- Inputs and evaluations

  name-again : (n : LogicalName) → IsName n → name_in (name_text n.0) ≡ Some n
  name-again n h = ap (option_map (λ bytes. record { 0 = bytes })) (text_gives (name_text n.0) n h.bytes h.long refl)

  value-again : (t : Tree) → HasLengths t → HasRanges t → depth t ≤ 16 → value_in (encode_upper (canonical t)) ≡ Some t
  value-again t lengths ranges nested =
      ap (option_and_then (λ bytes. whole (data_at 16 bytes))) (hex-again (canonical t) (canonical_bytes t ranges))
      ∙ ap (λ s. whole (data_at 16 s)) (sym (append-nil (canonical t)))
      ∙ ap whole (written_is_read t [] lengths ranges nested)

  input-kept : (r : Bool) (x : CellRef) (v : Data) → with_return r (lines.Input x v) ≡ lines.Input x v
  input-kept true x v = refl
  input-kept false x v = refl

  input-read : (n : LogicalName) (t : Tree) → IsName n → HasLengths t → HasRanges t → depth t ≤ 16 →
      said_by P (codes "in") (worded (name_text n.0) (encode_upper (canonical t))) ≡ lines.Input (input_cell P n) (data_of t)
  input-read n t named lengths ranges nested =
      let word = name_text n.0 in
      let hex = encode_upper (canonical t) in
      ap (input_at P (worded word hex)) (space-is word hex (name-text-lacks 32 (omega arith) n named))
      ∙ ap (λ w. input_of P (name_in w) (value_in (drop (length word + 1) (worded word hex)))) (word-is word hex)
      ∙ ap (λ t. input_of P (name_in word) (value_in t)) (text-is word hex)
      ∙ ap (λ o. input_of P o (value_in hex)) (name-again n named)
      ∙ ap (input_of P (Some n)) (value-again t lengths ranges nested)

  pub input-says : (n : LogicalName) (t : Tree) → IsName n → HasLengths t → HasRanges t → depth t ≤ 16 →
      says P (worded (codes "in") (worded (name_text n.0) (encode_upper (canonical t)))) ≡ theory.Input (input_cell P n) t ∷ []
  input-says n t named lengths ranges nested =
      let text = worded (name_text n.0) (encode_upper (canonical t)) in
      let r = ends_in_return (worded (codes "in") text) in
      ap (λ l. steps_of (trail_tasks P l))
      (said-is 105 (110 ∷ []) text (λ e. omega arith) ((λ e. omega arith), ((λ e. omega arith), tt)) refl
      ∙ ap (λ l. Said (with_return r l)) (input-read n t named lengths ranges nested)
      ∙ ap Said (input-kept r (input_cell P n) (data_of t)))
      ∙ ap (λ v. theory.Input (input_cell P n) v ∷ []) (tree-data_of t)

  evaluate-kept : (r : Bool) (n : LogicalName) → with_return r (lines.Evaluate n) ≡ lines.Evaluate n
  evaluate-kept true n = refl
  evaluate-kept false n = refl

  pub evaluate-says : (n : LogicalName) → IsName n → says P (worded (codes "eval") (name_text n.0)) ≡ theory.Evaluate n ∷ []
  evaluate-says n named =
      let text = name_text n.0 in
      let r = ends_in_return (worded (codes "eval") text) in
      ap (λ l. steps_of (trail_tasks P l))
      (said-is 101 (118 ∷ 97 ∷ 108 ∷ []) text (λ e. omega arith) ((λ e. omega arith), ((λ e. omega arith), ((λ e. omega arith), ((λ e. omega arith), tt)))) refl
      ∙ ap (λ o. Said (with_return r (evaluation_of o))) (name-again n named)
      ∙ ap Said (evaluate-kept r n))

  -- Lines of a trail alone

  pub capture-says : (n : LogicalName) → IsName n → says P (worded (codes "capture-if-due") (name_text n.0)) ≡ theory.CaptureAt n ∷ []
  capture-says n named =
      ap (λ l. steps_of (trail_tasks P l)) (own-said P (codes "capture-if-due") (name_text n.0) (CaptureIfDue n) (lacks_word 32 (codes "capture-if-due") refl) (ap (λ o. Some (capture_of o)) (name-again n named)))

  pub run-says : (n : LogicalName) → IsName n → says P (worded (codes "run-if-due") (name_text n.0)) ≡ theory.ScheduleAt n ∷ []
  run-says n named =
      ap (λ l. steps_of (trail_tasks P l)) (own-said P (codes "run-if-due") (name_text n.0) (RunIfDue n) (lacks_word 32 (codes "run-if-due") refl) (ap (λ o. Some (run_of o)) (name-again n named)))

  pub clock-says : (t : Moment) → IsMoment t → says P (worded (codes "set-clock") (moment_text t)) ≡ theory.ClockAt t ∷ []
  clock-says t is =
      ap (λ l. steps_of (trail_tasks P l)) (own-said P (codes "set-clock") (moment_text t) (SetClock t) (lacks_word 32 (codes "set-clock") refl) (ap (λ o. Some (clock_of o)) (moment-again t is)))

  takes-all : (steps : List theory.Step) → steps_of (map Take steps) ≡ steps
  takes-all [] = refl
  takes-all (s ∷ steps) = ap (λ ss. s ∷ ss) (takes-all steps)

  pub seconds-say : (n : ℕ) → 1 ≤ n → n ≤ MOVE_SECONDS → says P (worded (codes "move-clock") (decimal n)) ≡ ticks n
  seconds-say n some few =
      ap (λ l. steps_of (trail_tasks P l)) (own-said P (codes "move-clock") (decimal n) (MoveClock n) (lacks_word 32 (codes "move-clock") refl) (ap (λ o. Some (seconds_of o)) read))
      ∙ takes-all (ticks n)
    where
      read : seconds_in (decimal n) ≡ Some n
      read = ap (option_and_then (λ n. cond (nat_le 1 n) (Some n) None)) (number_gives MOVE_SECONDS n (decimal n) (omega arith) few refl) ∙ ap (λ b. cond b (Some n) None) (le-leb 1 n some)
