-- Clients that are added link by link.
use Rattle.std.proofs.Common.{◌≡◌, ◌<◌, ◌⊎◌, ◌+◌, ℕ, zero, suc, Bool, true, false, ◌&&◌, ◌||◌, List, [], ◌∷◌, ◌++◌, length, get_or, take, refl, sym, ap, subst, ◌∙◌, inl, inr, arith}
use Rattle.std.specs.List.{list_any}
use Rattle.std.proofs.lemmas.Bool.{cases_eq, eq-eqb, ne_eqb}
use Rattle.std.proofs.lemmas.List.{take_more}
use Rattle.std.proofs.lemmas.List.Folds.{list_any-append}
use Rattle.cosem_data.specs.declared.clients.ClientSet.{ClientSet}
use Rattle.meter_theory.specs.Labels.{has}
use Rattle.meter_theory.specs.Lists.{IsIn}
use Rattle.meter_theory.specs.declared.flow.Cause.TheVariants.{Monitored}
use Rattle.meter_theory.specs.declared.flow.Reach.{Reach}
use Rattle.meter_theory.specs.declared.flow.Reach.TheVariants.{Influence, Learn}
use Rattle.flow_edges.specs.declared.table.Link.{Link}
use Rattle.label_certificate.specs.Closing.{set_at}
use Rattle.label_certificate.specs.Least.{AreLinks}
use Rattle.flow_edges.specs.Ends.{far_of, near_of}
use Rattle.flow_ways.specs.Rounds.{IsAdded, IsRound, leads}

-- a link that no table has
abbrev pub no_link : Link
no_link = record { source = 0; target = 0; cause = Monitored }

pub near-within : (reach : Reach) (n : ℕ) (l : Link) → (l.source < n) × (l.target < n) → near_of reach l < n
near-within Influence n l h = h.0
near-within Learn n l h = h.1

pub far-within : (reach : Reach) (n m : ℕ) (l : Link) → m ≡ n → (l.source < n) × (l.target < n) → far_of reach l < m
far-within Influence n m l e h = omega (arith, e, h.1)
far-within Learn n m l e h = omega (arith, e, h.0)

or-false : (a : Bool) → (a || false) ≡ a
or-false true = refl
or-false false = refl

or-later : (a b c : Bool) → ((a || b) || c) ≡ (a || (b || c))
or-later true b c = refl
or-later false b c = refl

-- along no link nothing is added
pub no-round : (reach : Reach) (sets : List ClientSet) → IsRound reach [] sets sets
no-round reach sets = record { size = refl; each = λ i c h. sym (or-false (has (set_at sets i) c)) }

-- the link with this number
pub link-there : (n : ℕ) (links : List Link) (k : ℕ) (d : Link) → AreLinks n links → k < length links → ((get_or links k d).source < n) × ((get_or links k d).target < n)
link-there n links k d are low = are (get_or links k d) (in-at links k d low)
  where
    in-at : (xs : List Link) (i : ℕ) (d : Link) → i < length xs → IsIn xs (get_or xs i d)
    in-at [] i d h = absurd (omega arith)
    in-at (x ∷ xs) zero d h = inl refl
    in-at (x ∷ xs) (suc i) d h = inr (in-at xs i d (omega arith))

-- a link more behind those that were followed
behind : (reach : Reach) (links : List Link) (l : Link) (sets next more : List ClientSet) → IsRound reach links sets next → IsAdded (set_at sets (near_of reach l)) (far_of reach l) next more →
    IsRound reach (links ++ l ∷ []) sets more
behind reach links l sets next more r a = record { size = a.size ∙ r.size; each = each }
  where
    one : (i c : ℕ) → list_any (leads reach sets i c) (links ++ l ∷ []) ≡ (list_any (leads reach sets i c) links || leads reach sets i c l)
    one i c =
        list_any-append (leads reach sets i c) links (l ∷ []) ∙ ap (λ b. list_any (leads reach sets i c) links || b) (or-false (leads reach sets i c l))

    now : (i c : ℕ) → (i ≡ far_of reach l) ⊎ (i ≡ far_of reach l → ⊥) → has (set_at more i) c ≡ (has (set_at next i) c || leads reach sets i c l)
    now i c (inl e) =
        subst (λ j. has (set_at more j) c ≡ (has (set_at next j) c || leads reach sets j c l)) (sym e)
        (a.here c ∙ ap (λ b. has (set_at next (far_of reach l)) c || (b && has (set_at sets (near_of reach l)) c)) (sym (eq-eqb (far_of reach l) (far_of reach l) refl)))
    now i c (inr ne) =
        ap (λ s. has s c) (a.elsewhere i ne)
        ∙ (sym (or-false (has (set_at next i) c)) ∙ ap (λ b. has (set_at next i) c || (b && has (set_at sets (near_of reach l)) c)) (sym (ne_eqb (far_of reach l) i (λ e. ne (sym e)))))

    each : (i c : ℕ) → i < length sets → has (set_at more i) c ≡ (has (set_at sets i) c || list_any (leads reach sets i c) (links ++ l ∷ []))
    each i c h =
        now i c (cases_eq i (far_of reach l))
        ∙ (ap (λ b. b || leads reach sets i c l) (r.each i c h)
        ∙ (or-later (has (set_at sets i) c) (list_any (leads reach sets i c) links) (leads reach sets i c l) ∙ ap (λ b. has (set_at sets i) c || b) (sym (one i c))))

-- along one more
pub round-more : (reach : Reach) (links : List Link) (k : ℕ) (d : Link) (sets next more : List ClientSet) → k < length links → IsRound reach (take k links) sets next →
    IsAdded (set_at sets (near_of reach (get_or links k d))) (far_of reach (get_or links k d)) next more → IsRound reach (take (k + 1) links) sets more
round-more reach links k d sets next more low r a = one-more (get_or links k d) (take_more links k d low) a
  where
    one-more : (l : Link) → take (k + 1) links ≡ take k links ++ l ∷ [] → IsAdded (set_at sets (near_of reach l)) (far_of reach l) next more → IsRound reach (take (k + 1) links) sets more
    one-more l is b = subst (λ ls. IsRound reach ls sets more) (sym is) (behind reach (take k links) l sets next more r b)
