-- Headings that agree are equal.
use Rattle.std.proofs.Common.{◌≡◌, ℕ, ◌==◌, Bool, true, false, ◌&&◌, List, [], ◌∷◌, Option, Some, None, refl, sym, ap, ◌∙◌}
use Rattle.std.specs.Cmp.Lexicographic.{pointwise}
use Rattle.std.proofs.lemmas.Bool.{eqb-true}
use Rattle.typed_tree.specs.declared.shape.Formal.{Formal}
use Rattle.typed_tree.specs.declared.shape.Made.{Made}
use Rattle.typed_tree.specs.declared.shape.Shape.{Shape}
use Rattle.typed_tree.specs.declared.shape.Shape.TheVariants as shape
use Rattle.typed_tree.specs.declared.shape.Signature.{Signature}
use Rattle.typed_tree.specs.declared.types.Home.{Home}
use Rattle.typed_tree.specs.declared.types.Home.TheVariants.{Predeclared, Module}
use Rattle.typed_tree.specs.declared.types.TypeNo.{TypeNo}
use Rattle.typed_tree.specs.Types.{is_one_home, are_same}
use Rattle.check_block.specs.Agreeing.{is_one, same_formal, same_result, agrees, signature_in, signature_of, agree}

both_left : (a b : Bool) → (a && b) ≡ true → a ≡ true
both_left true b e = refl
both_left false b e = absurd cc

both_right : (a b : Bool) → (a && b) ≡ true → b ≡ true
both_right true b e = e
both_right false b e = absurd cc

same_homes : (a b : Home) → is_one_home a b ≡ true → a ≡ b
same_homes Predeclared Predeclared e = refl
same_homes Predeclared (Module n) e = absurd cc
same_homes (Module m) Predeclared e = absurd cc
same_homes (Module m) (Module n) e = ap (λ (k : ℕ). Module k) (eqb-true m n e)

same_types : (t u : TypeNo) → are_same t u ≡ true → t ≡ u
same_types t u e =
    let homes : t.home ≡ u.home = same_homes t.home u.home
    (both_left (is_one_home t.home u.home) (t.number == u.number) e) in
    let numbers : t.number ≡ u.number = eqb-true t.number u.number
    (both_right (is_one_home t.home u.home) (t.number == u.number) e) in
    ap (λ (h : Home). record { home = h; number = t.number }) homes
    ∙ ap (λ (i : ℕ). record { home = u.home; number = i }) numbers

same_truths : (a b : Bool) → is_one a b ≡ true → a ≡ b
same_truths true b e = sym e
same_truths false true e = absurd cc
same_truths false false e = refl

same_formals : (f k : Formal) → same_formal f k ≡ true → f ≡ k
same_formals f k e =
    let rest = both_right (is_one f.is_var k.is_var) (is_one f.is_open k.is_open && are_same f.of k.of) e in
    let a : f.is_var ≡ k.is_var = same_truths f.is_var k.is_var
    (both_left (is_one f.is_var k.is_var) (is_one f.is_open k.is_open && are_same f.of k.of) e) in
    let b : f.is_open ≡ k.is_open = same_truths f.is_open k.is_open
    (both_left (is_one f.is_open k.is_open) (are_same f.of k.of) rest) in
    let c : f.of ≡ k.of = same_types f.of k.of (both_right (is_one f.is_open k.is_open) (are_same f.of k.of) rest) in
    ap (λ (x : Bool). record { is_var = x; is_open = f.is_open; of = f.of }) a
    ∙ (ap (λ (x : Bool). record { is_var = k.is_var; is_open = x; of = f.of }) b
    ∙ ap (λ (t : TypeNo). record { is_var = k.is_var; is_open = k.is_open; of = t }) c)

same_lists : (fs ks : List Formal) → pointwise same_formal fs ks ≡ true → fs ≡ ks
same_lists [] [] e = refl
same_lists [] (k ∷ ks) e = absurd cc
same_lists (f ∷ fs) [] e = absurd cc
same_lists (f ∷ fs) (k ∷ ks) e =
    ap (λ (x : Formal). x ∷ fs) (same_formals f k (both_left (same_formal f k) (pointwise same_formal fs ks) e))
    ∙ ap (λ (xs : List Formal). k ∷ xs) (same_lists fs ks
    (both_right (same_formal f k) (pointwise same_formal fs ks) e))

same_results : (t u : Option TypeNo) → same_result t u ≡ true → t ≡ u
same_results None None e = refl
same_results None (Some u) e = absurd cc
same_results (Some t) None e = absurd cc
same_results (Some t) (Some u) e = ap (λ (x : TypeNo). Some x) (same_types t u e)

pub same_signatures : (h k : Signature) → agrees h k ≡ true → h ≡ k
same_signatures h k e =
    let a : h.formals ≡ k.formals = same_lists h.formals k.formals
    (both_left (pointwise same_formal h.formals k.formals) (same_result h.result k.result) e) in
    let b : h.result ≡ k.result = same_results h.result k.result
    (both_right (pointwise same_formal h.formals k.formals) (same_result h.result k.result) e) in
    ap (λ (fs : List Formal). record { formals = fs; result = h.result }) a
    ∙ ap (λ (r : Option TypeNo). record { formals = k.formals; result = r }) b

-- a type whose signature agrees with one has that one
by_shape : (h : Signature) (y : Made) (s : Shape) → y.shape ≡ s → agree (Some h) (signature_in s) ≡ true
    → y.shape ≡ shape.Procedure h
by_shape h y (shape.Procedure k) e f = e ∙ ap (λ (x : Signature). shape.Procedure x) (sym (same_signatures h k f))
by_shape h y (shape.Scalar r) e f = absurd cc
by_shape h y shape.Set e f = absurd cc
by_shape h y (shape.Array i j) e f = absurd cc
by_shape h y (shape.Record fs) e f = absurd cc
by_shape h y (shape.Open j) e f = absurd cc

pub agreed_made : (h : Signature) (o : Option Made) → agree (Some h) (signature_of o) ≡ true → (y : Made)
    × ((o ≡ Some y) × (y.shape ≡ shape.Procedure h))
agreed_made h None e = absurd cc
agreed_made h (Some y) e = (y, (refl, by_shape h y y.shape refl e))
