-- Files that keep the steps of a served meter. All of it is own profile.
use Rattle.std.specs.Prelude.{◌≡◌, ℕ, List, ◌∷◌}
use Rattle.sha2.specs.Sha256.{sha256}
use Rattle.trail_file.specs.Heads.{head_entry}
use Rattle.trail_file.specs.Text.{Entry, recovered}
use Rattle.trail_file.specs.declared.head.Head.{Head}

-- the file is the trail of the configuration with these bytes: its head tells their digest
pub record IsTrailOf (config file : List ℕ) : Type 0 where
  pub head : Head
  pub entries : List Entry
  pub is : recovered file ≡ head_entry head ∷ entries
  pub digest : head.digest ≡ sha256 config
