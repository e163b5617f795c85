-- Lists of verdicts, joined and cut.
use Rattle.std.proofs.Common.{◌≡◌, List, [], ◌∷◌, ◌++◌, refl, ap}
use Rattle.std.specs.List.{AllZip}
use Rattle.fleet_audit.specs.Audits.{IsVerdictOf}
use Rattle.fleet_audit.specs.Laws.{JoinedAudits, SplitAudits}

module _ {X Y : Type 0} (R : X → Y → Type 0) where
  -- two lists and what they give, one behind the other
  pub joined : (xs zs : List X) (ys ws : List Y) → AllZip R xs ys → AllZip R zs ws → AllZip R (xs ++ zs) (ys ++ ws)
  joined [] zs [] ws a b = b
  joined [] zs (y ∷ ys) ws a b = absurd a
  joined (x ∷ xs) zs [] ws a b = absurd a
  joined (x ∷ xs) zs (y ∷ ys) ws a b = (a.0, joined xs zs ys ws a.1 b)

  -- what a joined list gives, cut where that is
  pub cut : (xs zs : List X) (ys : List Y) → AllZip R (xs ++ zs) ys → (vs : List Y) × (ws : List Y) × (ys ≡ vs ++ ws) × AllZip R xs vs × AllZip R zs ws
  cut [] zs ys a = ([], ys, refl, tt, a)
  cut (x ∷ xs) zs [] a = absurd a
  cut (x ∷ xs) zs (y ∷ ys) a =
      let rest = cut xs zs ys a.1 in
      (y ∷ rest.0, rest.1, ap (λ l. y ∷ l) rest.2, (a.0, rest.3), rest.4)

pub joined_audits : JoinedAudits
joined_audits xs ys vs ws = joined IsVerdictOf xs ys vs ws

pub split_audits : SplitAudits
split_audits xs ys verdicts = cut IsVerdictOf xs ys verdicts
