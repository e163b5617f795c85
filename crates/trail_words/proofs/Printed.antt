-- What was printed of a trail's file.
use Rattle.std.proofs.Common.{◌≡◌, ℕ, suc, ◌<◌, List, [], ◌∷◌, ◌++◌, All, true, Option, Err, length, map, inr, sym, ap, subst, ◌∙◌, arith, refl}
use Rattle.std.specs.Io.KnownBytes.{Appends}
use Rattle.std.proofs.lemmas.Bool.{eqb-true}
use Rattle.trail_file.specs.Opening.{IsDamaged}
use Rattle.trail_file.specs.Text.{Entry, recovered}
use Rattle.trail_file.specs.declared.head.Head.{Head}
use Rattle.trail_words.specs.Pieces.{Leaves, WritesText}
use Rattle.trail_words.specs.Printing.{HasNoHead, IsBegun, IsBegunOrNone, IsPrinted, IsRest, is_cut, trail_text}
use Rattle.trail_words.specs.Wanting.{HasMoment, IsHeaded, IsTrail, entry_of, wanted_of}
use Rattle.trail_words.specs.declared.fault.TrailTextFault.{TrailTextFault}
use Rattle.trail_words.specs.declared.fault.TrailTextFault.TheVariants.{Write}
use Rattle.trail_words.specs.declared.form.TrailForm.{TrailForm}
use Rattle.trail_words.specs.declared.steps.TrailStep.{TrailStep}
use Rattle.trail_words.specs.declared.wanted.Wanted.{Wanted}

-- what was read of a file, behind its head
pub is-trail : (file : List ℕ) (all entries steps : List TrailStep) (head : Head) → recovered file ≡ map entry_of all → All HasMoment all → entries ≡ all → IsHeaded entries head steps → IsTrail file head steps
is-trail file all entries steps head read moments same headed =
    let is = sym same ∙ headed.is in
    let every = subst (All HasMoment) is moments in
    record {
      is_head = headed.is_head;
      entries = read ∙ ap (map entry_of) is ∙ ap (λ (e : Entry). e ∷ map entry_of steps) headed.tells_head;
      moments = λ k d less. every (suc k) d (omega (arith, less));
    }

-- no head was read
pub no-head : (file : List ℕ) (all entries : List TrailStep) → recovered file ≡ map entry_of all → entries ≡ all → HasNoHead (map entry_of entries) → HasNoHead (recovered file)
no-head file all entries read same none = subst HasNoHead (sym (read ∙ ap (map entry_of) (sym same))) none

-- what stands behind the whole entries is a beginning of another
pub cut-damaged : (file rest : List ℕ) → IsRest file rest → is_cut rest ≡ true → IsDamaged file
cut-damaged file [] behind cut = cc
cut-damaged file (latch ∷ []) behind cut = cc
cut-damaged file (latch ∷ next ∷ tail) behind cut =
    let open_latch : latch ≡ 35 = eqb-true latch 35 cut in
    let is : latch ∷ next ∷ tail ≡ 35 ∷ next ∷ tail = ap (λ (b : ℕ). b ∷ next ∷ tail) open_latch in
    record {
      front = behind.front;
      tail = next ∷ tail;
      is = behind.is ∙ ap (λ (t : List ℕ). behind.front ++ t) is;
      whole = behind.whole;
      some = omega arith;
      cut = ap recovered (sym is) ∙ behind.none;
    }

module _ (form : TrailForm) (wanted : Wanted) (file : List ℕ) (head : Head) (steps : List TrailStep) (trail : IsTrail file head steps) (before after : Option (List ℕ)) where
  pub all-printed : Appends before after (trail_text form head (wanted_of wanted steps)) → IsPrinted form wanted file before after
  all-printed written = (trail_text form head (wanted_of wanted steps), record { head = head; steps = steps; is_trail = trail; text_is = refl }, written)

  pub write-begun : (fault : TrailTextFault) → WritesText (trail_text form head (wanted_of wanted steps)) before after (Err fault) → fault ≡ Write → IsBegun form wanted file 1 before after
  write-begun fault cut is =
      let some : 0 < length cut.1 = subst (λ (f : TrailTextFault). Leaves f cut.1) is cut.4 in
      (cut.0, cut.1, record { head = head; steps = steps; is_trail = trail; text_is = sym cut.2 }, cut.3, omega (arith, some))

  pub memory-begun : (fault : TrailTextFault) → WritesText (trail_text form head (wanted_of wanted steps)) before after (Err fault) → IsBegunOrNone form wanted file before after
  memory-begun fault cut = inr (cut.0, cut.1, record { head = head; steps = steps; is_trail = trail; text_is = sym cut.2 }, cut.3, omega arith)
