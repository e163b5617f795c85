-- The pieces in which a trail is printed, put together.
use Rattle.std.proofs.Common.{◌≡◌, ◌≤◌, ◌<◌, ℕ, ◌+◌, Bool, true, false, ◌&&◌, List, [], ◌∷◌, ◌++◌, drop, get_or, length, map, sym, ap, ◌∙◌, append_assoc, refl}
use Rattle.std.specs.Prelude.{codes, flat_map, if◌then◌else◌}
use Rattle.std.proofs.lemmas.List.{append-nil, drop_all, drop_more}
use Rattle.json.specs.Print.{escape_byte}
use Rattle.serde_json.specs.Data.{string}
use Rattle.serde_json.specs.View.{items_of}
use Rattle.serde_json.specs.Written.{comma_if, compact_text, items_text}
use Rattle.trail_file.specs.Versions.{version_text}
use Rattle.trail_file.specs.declared.head.Head.{Head}
use Rattle.trail_words.specs.Json.{step_data, trail_json}
use Rattle.trail_words.specs.Lines.{digest_text, head_line, step_line}
use Rattle.trail_words.specs.Pieces.{foot_text, front_text, step_text, steps_text}
use Rattle.trail_words.specs.Printing.{trail_text}
use Rattle.trail_words.specs.Wanting.{client_wanted, is_by, is_new, wanted_of}
use Rattle.trail_words.specs.declared.form.TrailForm.{TrailForm}
use Rattle.trail_words.specs.declared.form.TrailForm.TheVariants.{Lines, Json}
use Rattle.trail_words.specs.declared.steps.TrailStep.{TrailStep}
use Rattle.trail_words.specs.declared.wanted.Wanted.{Wanted}

-- what stands before the steps, the steps, and what stands behind them
abbrev pub pieces_text : TrailForm → Head → List TrailStep → List ℕ
pieces_text form head steps = front_text form head ++ (steps_text form false steps ++ foot_text form head)

lines-text : (is_later : Bool) (steps : List TrailStep) → steps_text Lines is_later steps ≡ flat_map step_line steps
lines-text is_later [] = refl
lines-text is_later (s ∷ steps) = ap (λ (t : List ℕ). step_line s ++ t) (lines-text true steps)

-- the items of an array, with the bracket that ends it
items-text : (is_later : Bool) (steps : List TrailStep) (rest : List ℕ) → steps_text Json is_later steps ++ 93 ∷ rest ≡ items_text is_later (items_of (map step_data steps)) ++ rest
items-text is_later [] rest = refl
items-text is_later (s ∷ steps) rest =
    let item = comma_if is_later ++ compact_text (step_data s) in
    append_assoc item (steps_text Json true steps) (93 ∷ rest)
    ∙ ap (λ (t : List ℕ). item ++ t) (items-text true steps rest)
    ∙ sym (append_assoc item (items_text true (items_of (map step_data steps))) rest)
    ∙ ap (λ (t : List ℕ). t ++ rest) (append_assoc (comma_if is_later) (compact_text (step_data s)) (items_text true (items_of (map step_data steps))))

-- what stands round the items
frame-text : (digest middle steps items key version : List ℕ) → ((rest : List ℕ) → steps ++ 93 ∷ rest ≡ items ++ rest) →
    (digest ++ middle) ++ (steps ++ ((93 ∷ key ++ version) ++ 125 ∷ 10 ∷ [])) ≡ (digest ++ (middle ++ (items ++ (key ++ (version ++ 125 ∷ []))))) ++ 10 ∷ []
frame-text digest middle steps items key version same =
    ap (λ (t : List ℕ). (digest ++ middle) ++ t) (same ((key ++ version) ++ 125 ∷ 10 ∷ [])) ∙ simp append_assoc

json-text : (head : Head) (steps : List TrailStep) → pieces_text Json head steps ≡ trail_json head steps
unfolding escape_byte
json-text head steps =
    ap (λ (t : List ℕ). codes "{\"configuration\":" ++ t)
    (frame-text (compact_text (string (digest_text head))) (codes ",\"program\":\"cosem-flow\",\"steps\":[") (steps_text Json false steps) (items_text false (items_of (map step_data steps)))
    (codes ",\"version\":") (compact_text (string (version_text head.version))) (items-text false steps))

-- they are what is printed
pub pieces-text : (form : TrailForm) (head : Head) (steps : List TrailStep) → pieces_text form head steps ≡ trail_text form head steps
pieces-text Lines head steps = ap (λ (t : List ℕ). head_line head ++ t) (append-nil (steps_text Lines false steps) ∙ lines-text false steps)
pieces-text Json head steps = json-text head steps

-- The steps from a place on

-- those that are wanted, behind others or not
abbrev pub left_text : TrailForm → (is_later : Bool) → Wanted → List TrailStep → ℕ → List ℕ
left_text form is_later w steps k = steps_text form is_later (wanted_of w (drop k steps))

module _ (form : TrailForm) (is_later : Bool) (w : Wanted) (steps : List TrailStep) (k : ℕ) where
  -- there are none
  pub none-left : length steps ≤ k → left_text form is_later w steps k ≡ []
  none-left end = ap (λ (ss : List TrailStep). steps_text form is_later (wanted_of w ss)) (drop_all k steps end)

  module _ (d : TrailStep) (less : k < length steps) where
    both : (a b : Bool) (s : TrailStep) (more : List TrailStep) → a ≡ true → b ≡ true → steps_text form is_later (if a && b then s ∷ more else more) ≡ step_text form is_later s ++ steps_text form true more
    both a b s more p q = rw (p, q) refl

    -- the first is wanted
    pub first-taken : is_new w.since (drop k steps) ≡ true → is_by (client_wanted w) (get_or steps k d).line.now ≡ true
        → left_text form is_later w steps k ≡ step_text form is_later (get_or steps k d) ++ left_text form true w steps (k + 1)
    first-taken new by =
        let at = drop_more steps k d less in
        ap (λ (ss : List TrailStep). steps_text form is_later (wanted_of w ss)) at
        ∙ both (is_new w.since (get_or steps k d ∷ drop (k + 1) steps)) (is_by (client_wanted w) (get_or steps k d).line.now) (get_or steps k d) (wanted_of w (drop (k + 1) steps)) (sym (ap (is_new w.since) at) ∙ new) by

    not-both : (a b : Bool) (s : TrailStep) (more : List TrailStep) → (a && b) ≡ false → steps_text form is_later (if a && b then s ∷ more else more) ≡ steps_text form is_later more
    not-both a b s more p = rw p refl

    -- the first isn't
    pub first-left : (is_new w.since (drop k steps) && is_by (client_wanted w) (get_or steps k d).line.now) ≡ false
        → left_text form is_later w steps k ≡ left_text form is_later w steps (k + 1)
    first-left other =
        let at = drop_more steps k d less in
        ap (λ (ss : List TrailStep). steps_text form is_later (wanted_of w ss)) at
        ∙ not-both (is_new w.since (get_or steps k d ∷ drop (k + 1) steps)) (is_by (client_wanted w) (get_or steps k d).line.now) (get_or steps k d) (wanted_of w (drop (k + 1) steps))
        (sym (ap (λ (ss : List TrailStep). is_new w.since ss && is_by (client_wanted w) (get_or steps k d).line.now) at) ∙ other)

-- whether the steps behind a step begin with one that isn't too old
pub new-behind : (w : Wanted) (steps : List TrailStep) (k : ℕ) (d : TrailStep) (here : Bool) → k < length steps → here ≡ is_new w.since (drop k steps) → here ≡ is_new w.since (get_or steps k d ∷ drop (k + 1) steps)
new-behind w steps k d here less is = is ∙ ap (is_new w.since) (drop_more steps k d less)

pub and-left : (a b : Bool) → a ≡ false → (a && b) ≡ false
and-left a b p = rw p refl

pub and-right : (a b : Bool) → b ≡ false → (a && b) ≡ false
and-right true b p = p
and-right false b p = refl
