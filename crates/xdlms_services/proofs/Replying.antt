-- One reply at most.
use Rattle.std.proofs.Common.{◌≡◌, ℕ, List, [], ◌∷◌, ◌++◌, refl, ap, subst, arith}
use Rattle.cosem_data.specs.declared.data.Data.{Data}
use Rattle.cosem_data.specs.View.{tree, tree_injective}
use Rattle.cosem_axdr.specs.Grammar.{IsEncoding}
use Rattle.cosem_axdr.proofs.Prefixes.{no_encoding_begins_another}
use Rattle.meter_theory.specs.declared.access.AccessCode.{AccessCode}
use Rattle.meter_theory.specs.declared.access.AccessCode.TheVariants as codes
use Rattle.meter_core.specs.declared.reply.Reply.{Reply}
use Rattle.meter_core.specs.declared.reply.Reply.TheVariants.{Value, Code}
use Rattle.xdlms_services.specs.declared.writing.Service.{Service}
use Rattle.xdlms_services.specs.declared.writing.Service.TheVariants.{Get, Set, Act}
use Rattle.meter_theory.specs.Access.{code_of}
use Rattle.xdlms_services.specs.Replies.{IsReply, OneReply}

-- the first of each
pub heads : (x y : ℕ) (xs ys : List ℕ) → x ∷ xs ≡ y ∷ ys → x ≡ y
heads x y xs ys e = cc

-- the rest of each
pub tails : (x y : ℕ) (xs ys : List ℕ) → x ∷ xs ≡ y ∷ ys → xs ≡ ys
tails x y xs ys e = cc

-- the encoding of one value at most
pub one_value : (v w : Data) (a b : List ℕ) → IsEncoding (tree v) a → IsEncoding (tree w) b → a ≡ b → v ≡ w
one_value v w a b p q e = tree_injective v w (no_encoding_begins_another (tree v) (tree w) a b [] [] p q (ap (λ (x : List ℕ). x ++ []) e)).0

-- results with one number are one
codes_apart : (c d : AccessCode) → code_of c ≡ code_of d → c ≡ d
codes_apart codes.Success codes.Success e = refl
codes_apart codes.TemporaryFailure codes.TemporaryFailure e = refl
codes_apart codes.ReadWriteDenied codes.ReadWriteDenied e = refl
codes_apart codes.ObjectUndefined codes.ObjectUndefined e = refl
codes_apart codes.ObjectClassInconsistent codes.ObjectClassInconsistent e = refl
codes_apart codes.TypeUnmatched codes.TypeUnmatched e = refl
codes_apart codes.ScopeOfAccessViolated codes.ScopeOfAccessViolated e = refl
codes_apart codes.OtherReason codes.OtherReason e = refl
codes_apart _ _ e = absurd (omega arith)

-- the same service, with one invoke byte and one result
same : (s : Service) (i j : ℕ) (c d : AccessCode) → i ≡ j → code_of c ≡ code_of d → (s ≡ s) × (i ≡ j) × (Code c ≡ Code d)
same s i j c d e f = (refl, e, ap Code (codes_apart c d f))

-- a GET's value against each other form
against_value : (z : Service) (i j : ℕ) (v : Data) (q : Reply) (text : List ℕ) → IsEncoding (tree v) text → IsReply z j q (196 ∷ 1 ∷ i ∷ 0 ∷ text) → (Get ≡ z) × (i ≡ j) × (Value v ≡ q)
against_value Get i j v (Value w) text p h =
    let e : 1 ∷ i ∷ 0 ∷ text ≡ 1 ∷ j ∷ 0 ∷ h.0 = tails 196 196 _ _ h.2 in
    let f : i ∷ 0 ∷ text ≡ j ∷ 0 ∷ h.0 = tails 1 1 _ _ e in
    let g : 0 ∷ text ≡ 0 ∷ h.0 = tails i j _ _ f in
    (refl, heads i j _ _ f, ap Value (one_value v w text h.0 p h.1 (tails 0 0 _ _ g)))
against_value Get i j v (Code d) text p h = absurd (omega (arith, heads 0 1 _ _ (tails i j _ _ (tails 1 1 _ _ (tails 196 196 _ _ h)))))
against_value Set i j v (Code d) text p h = absurd (omega (arith, heads 196 197 _ _ h))
against_value Act i j v (Code d) text p h = absurd (omega (arith, heads 196 199 _ _ h))
against_value _ i j v _ text p h = absurd h

-- a GET's result against each other form
against_get : (z : Service) (i j : ℕ) (c : AccessCode) (q : Reply) → IsReply z j q (196 ∷ 1 ∷ i ∷ 1 ∷ code_of c ∷ []) → (Get ≡ z) × (i ≡ j) × (Code c ≡ q)
against_get Get i j c (Value w) h = absurd (omega (arith, heads 1 0 _ _ (tails i j _ _ (tails 1 1 _ _ (tails 196 196 _ _ h.2)))))
against_get Get i j c (Code d) h =
    let f : i ∷ 1 ∷ code_of c ∷ [] ≡ j ∷ 1 ∷ code_of d ∷ [] = tails 1 1 _ _ (tails 196 196 _ _ h) in
    same Get i j c d (heads i j _ _ f) (heads (code_of c) (code_of d) _ _ (tails 1 1 _ _ (tails i j _ _ f)))
against_get Set i j c (Code d) h = absurd (omega (arith, heads 196 197 _ _ h))
against_get Act i j c (Code d) h = absurd (omega (arith, heads 196 199 _ _ h))
against_get _ i j c _ h = absurd h

-- a SET's result against each other form
against_set : (z : Service) (i j : ℕ) (c : AccessCode) (q : Reply) → IsReply z j q (197 ∷ 1 ∷ i ∷ code_of c ∷ []) → (Set ≡ z) × (i ≡ j) × (Code c ≡ q)
against_set Get i j c (Value w) h = absurd (omega (arith, heads 197 196 _ _ h.2))
against_set Get i j c (Code d) h = absurd (omega (arith, heads 197 196 _ _ h))
against_set Set i j c (Code d) h =
    let f : i ∷ code_of c ∷ [] ≡ j ∷ code_of d ∷ [] = tails 1 1 _ _ (tails 197 197 _ _ h) in
    same Set i j c d (heads i j _ _ f) (heads (code_of c) (code_of d) _ _ (tails i j _ _ f))
against_set Act i j c (Code d) h = absurd (omega (arith, heads 197 199 _ _ h))
against_set _ i j c _ h = absurd h

-- an ACTION's result against each other form
against_act : (z : Service) (i j : ℕ) (c : AccessCode) (q : Reply) → IsReply z j q (199 ∷ 1 ∷ i ∷ code_of c ∷ 0 ∷ []) → (Act ≡ z) × (i ≡ j) × (Code c ≡ q)
against_act Get i j c (Value w) h = absurd (omega (arith, heads 199 196 _ _ h.2))
against_act Get i j c (Code d) h = absurd (omega (arith, heads 199 196 _ _ h))
against_act Set i j c (Code d) h = absurd (omega (arith, heads 199 197 _ _ h))
against_act Act i j c (Code d) h =
    let f : i ∷ code_of c ∷ 0 ∷ [] ≡ j ∷ code_of d ∷ 0 ∷ [] = tails 1 1 _ _ (tails 199 199 _ _ h) in
    same Act i j c d (heads i j _ _ f) (heads (code_of c) (code_of d) _ _ (tails i j _ _ f))
against_act _ i j c _ h = absurd h

pub one_reply_lem : OneReply
one_reply_lem Get z i j (Value v) q bytes p h = against_value z i j v q p.0 p.1 (subst (IsReply z j q) p.2 h)
one_reply_lem Get z i j (Code c) q bytes p h = against_get z i j c q (subst (IsReply z j q) p h)
one_reply_lem Set z i j (Code c) q bytes p h = against_set z i j c q (subst (IsReply z j q) p h)
one_reply_lem Act z i j (Code c) q bytes p h = against_act z i j c q (subst (IsReply z j q) p h)
one_reply_lem _ z i j _ q bytes p h = absurd p
