use Rattle.std.proofs.Common.{◌≡◌, ℕ, false, Some, refl, sym, subst}
use Rattle.cosem_data.specs.Tree.{Tree}
use Rattle.cosem_class.specs.declared.class.Op.TheVariants.{Write}
use Rattle.class_profile.specs.ProfileClass.{profile_touched}
use Rattle.class_profile.proofs.profile.Profile.put.Goals as goal

-- a write of capture_period leaves the entries
keeps : (index cell : ℕ) → index ≡ 4 → profile_touched (Write 4) cell ≡ false → profile_touched (Write index) cell ≡ false
keeps index cell is at_period = subst (λ (k : ℕ). profile_touched (Write k) cell ≡ false) (sym is) at_period

same_value : (a b : Tree) → Some a ≡ Some b → a ≡ b
same_value a b e = cc

pub returns-clause-rows : goal.returns-clause-rows
returns-clause-rows c = same_value _ _ (c.put_into-same.ensures.others 2 (keeps _ 2 c.requires.index refl))

pub returns-clause-count : goal.returns-clause-count
returns-clause-count c = same_value _ _ (c.put_into-same.ensures.others 7 (keeps _ 7 c.requires.index refl))
