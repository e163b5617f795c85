-- What is told as far as there is memory for it.
use Rattle.std.proofs.Common.{◌≡◌, ℕ, Bool, true, false, List, [], ◌∷◌, Result, Ok, Err, IfOk, String, append-nil, append_assoc, string_bytes, inl, inr, refl, ap, sym, subst, true≢false, ◌∙◌}
use Rattle.std.specs.Global.{Global}
use Rattle.cosem_data.specs.declared.memory.Memory.{Memory}
use Rattle.fleet_audit.specs.declared.text.Text.{Text}
use Rattle.verdict.specs.declared.Verdict.{Verdict}
use Rattle.meter_server.specs.Auditing.{ExplainsAll}
use Rattle.meter_server.specs.Remarks.{GoesOn, IsTold, Told, TellsBoth, cut_behind, joined, made, whole}

-- lines that say so are told so, where they were made
pub told-so : (Says : List ℕ → Type 0) (lines : Result (String Global) Memory) (told : Told) → told ≡ made lines → IfOk lines (λ text. Says (string_bytes text)) → IsTold Says told
told-so Says (Ok lines) told is h = inl (string_bytes lines, h, is)
told-so Says (Err refused) told is h = inr is

-- what is cut
cut-lines : (told : Told) → told.is_cut ≡ true → told ≡ cut_behind told.lines
cut-lines told is = ap (λ (c : Bool). let t : Told = record { lines = told.lines; is_cut = c } in t) is

-- the lines of these verdicts can be told, if only by none for want of memory
some-all : (names : List (List ℕ)) (texts : List Text) (verdicts : List Verdict) → (told : Told) × ExplainsAll names texts verdicts told
some-all [] texts verdicts = (whole [], refl)
some-all (name ∷ names) [] verdicts = (whole [], refl)
some-all (name ∷ names) (text ∷ texts) [] = (whole [], refl)
some-all (name ∷ names) (text ∷ texts) (verdict ∷ verdicts) =
    let rest = some-all names texts verdicts in (cut_behind [], (cut_behind [], rest.0, inr refl, rest.1, inr refl))

-- what is told goes on with the first of the verdicts that are left, which are these and those behind them
module _ (All Left One : Told → Type 0) (names : List (List ℕ)) (texts : List Text) (verdicts : List Verdict)
    (first : (told : Told) → TellsBoth One (ExplainsAll names texts verdicts) told → Left told)
    (front : Told) (all : (behind : Told) → Left behind → All (joined front behind)) where
  -- memory was refused for it, or is for going on: that is all
  pub ends-cut : (here told : Told) → One here → One (cut_behind []) → GoesOn front here told → told.is_cut ≡ true → All told
  ends-cut here told one none (inl (going, is)) cut =
      let rest = some-all names texts verdicts in
      subst All (sym is) (all here (first here (here, rest.0, one, rest.1, inr (cut-lines here (sym (ap (λ (t : Told). t.is_cut) is) ∙ cut)))))
  ends-cut here told one none (inr is) cut =
      let rest = some-all names texts verdicts in
      subst All (ap cut_behind (append-nil front.lines) ∙ sym is) (all (cut_behind []) (first (cut_behind []) (cut_behind [], rest.0, none, rest.1, inr refl)))

  -- else the verdicts behind it are left
  pub goes-on : (here told : Told) → One here → GoesOn front here told → told.is_cut ≡ false → (behind : Told) → ExplainsAll names texts verdicts behind → All (joined told behind)
  goes-on here told one (inl (going, is)) whole behind rest =
      subst All (ap (λ (l : List ℕ). let t : Told = record { lines = l; is_cut = behind.is_cut } in t) (sym (append_assoc front.lines here.lines behind.lines)) ∙ ap (λ (t : Told). joined t behind) (sym is))
      (all (joined here behind) (first (joined here behind) (here, behind, one, rest, inl (sym (ap (λ (t : Told). t.is_cut) is) ∙ whole, refl))))
  goes-on here told one (inr is) whole behind rest = absurd (true≢false (sym (ap (λ (t : Told). t.is_cut) is) ∙ whole))
