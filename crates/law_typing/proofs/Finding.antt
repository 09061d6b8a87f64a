-- What is found of an expression, by its layer, and as a value.
use Rattle.std.proofs.Common.{◌≡◌, ℕ, List, [], ◌∷◌, Result, Ok, ◌⊎◌, inl, inr, sym, ap, subst, ◌∙◌}
use Rattle.std.specs.Prelude.{map}
use Rattle.std.specs.List.{fold}
use Rattle.m2_tree.specs.declared.pos.Pos.{Pos}
use Rattle.m2_tree.specs.declared.name.Ident.{Ident}
use Rattle.m2_tree.specs.declared.expr.Expr.{Expr, Expr-F, out-Expr}
use Rattle.m2_tree.specs.declared.expr.Selector.{Selector}
use Rattle.m2_tree.specs.declared.expr.Designator.{Designator}
use Rattle.m2_tree.specs.declared.expr.Item.{Item}
use Rattle.m2_rule.specs.declared.breach.Breach.{Breach}
use Rattle.check_scope.specs.declared.meaningless.Meaningless.{Meaningless}
use Rattle.check_scope.specs.declared.scope.Scope.{Scope}
use Rattle.check_scope.specs.Elaborated.{Gathers}
use Rattle.check_value.specs.declared.computed.Computed.{Computed}
use Rattle.check_value.specs.declared.computed.Designated.{Designated}
use Rattle.check_expr.specs.Meanings.{Meant, meanings_of, value_of, value_standing, of_computed, expr_layer, breaches_in_all, with_look}
use Rattle.def_typing.specs.Operators.{Kind}
use Rattle.def_typing.specs.Things.{Thing, AValue, Standing, Taken, Mistaken}
use Rattle.def_typing.specs.Parts.{first, Among, here, later}
use Rattle.def_typing.specs.Expressions.{IsOperand, IsPart, an_operand, Stands, as_written, Has, taken, Reads, Fails, no_operand, Broken, fails, inside, BrokenAsValue, broken, mistaken}
use Rattle.law_typing.specs.Judging.{Judges, Answers}
use Rattle.law_typing.specs.Exact.{IsKind, Repeats}
use Rattle.law_typing.proofs.Combining.{Lawful, exact, Finds, finds_as, computed_finds, heading_tells, Tells, silent, tells_as, beside_tells}
use Rattle.law_typing.proofs.Placing.{value_answers}
use Rattle.law_typing.proofs.Places.{opened, meant_is, at_is}

module _ (g : Gathers) (j : Judges g) (lawful : Lawful g j) (names : Ident → Standing) (exports : ℕ → Ident → Standing)
    (s : Scope g.Reported) where
  abbrev pub Elsewhere : Breach → Type 0
  Elsewhere = Repeats g j names s

  abbrev pub StandsFor : Expr → Thing → Type 0
  StandsFor = Stands s.types names exports

  abbrev pub HasKind : Expr → Kind → Type 0
  HasKind = Has s.types names exports

  abbrev pub IsBroken : Expr → Breach → Type 0
  IsBroken = Broken s.types names exports

  abbrev pub IsBrokenValue : Expr → Breach → Type 0
  IsBrokenValue = BrokenAsValue s.types names exports

  abbrev pub IsFound : Expr → Type 0
  IsFound e = Finds g j lawful Elsewhere (StandsFor e) (IsBroken e) ((meanings_of g e).means s)

  abbrev pub IsValued : Expr → Type 0
  IsValued e = Answers g j Elsewhere IsKind (HasKind e) (IsBrokenValue e) (value_of g s (meanings_of g e))

  -- ---- by layers

  abbrev pub InLayer : Expr-F Expr Selector Designator Item → Breach → Type 0
  InLayer y f = Fails s.types names exports y f ⊎ ((x : Expr) × IsPart x y × IsBroken x f)

  broken_by : {e : Expr} {f : Breach} (y : Expr-F Expr Selector Designator Item) → out-Expr e ≡ y → IsBroken e f
      → InLayer y f
  broken_by {f = f} y h (fails x) = inl (subst
      (λ (y : Expr-F Expr Selector Designator Item). Fails s.types names exports y f) h x)
  broken_by {f = f} y h (inside {x = x} p b) = inr (x, subst (IsPart x) h p, b)

  by_broken : {e : Expr} {f : Breach} (y : Expr-F Expr Selector Designator Item) → out-Expr e ≡ y → InLayer y f
      → IsBroken e f
  by_broken {f = f} y h (inl x) = fails (subst
      (λ (y : Expr-F Expr Selector Designator Item). Fails s.types names exports y f) (sym h) x)
  by_broken y h (inr (x, p, b)) = inside (subst (IsPart x) (sym h) p) b

  stands_by : {e : Expr} {x : Thing} (y : Expr-F Expr Selector Designator Item) → out-Expr e ≡ y → StandsFor e x
      → Reads s.types names exports y x
  stands_by {x = x} y h (as_written r) = subst
      (λ (y : Expr-F Expr Selector Designator Item). Reads s.types names exports y x) h r

  by_stands : {e : Expr} {x : Thing} (y : Expr-F Expr Selector Designator Item) → out-Expr e ≡ y
      → Reads s.types names exports y x → StandsFor e x
  by_stands {x = x} y h r = as_written (subst
      (λ (y : Expr-F Expr Selector Designator Item). Reads s.types names exports y x) (sym h) r)

  pub by_layer : {e : Expr} (y : Expr-F Expr Selector Designator Item) (d : Result Designated (Meaningless g.Reported))
      → out-Expr e ≡ y → (expr_layer g (opened g y)).means s ≡ d
      → Finds g j lawful Elsewhere (Reads s.types names exports y) (InLayer y) d → IsFound e
  by_layer {e = e} y d h q a = subst (Finds g j lawful Elsewhere (StandsFor e) (IsBroken e))
      (sym (ap (λ (m : Meant g.Reported). m.means s) (meant_is g e y h) ∙ q))
      (finds_as g j lawful Elsewhere (λ x r. by_stands y h r) (λ x m. stands_by y h m) (λ f b. by_broken y h b)
      (λ f b. broken_by y h b) a)

  -- a layer that is a value
  pub value_layer : {e : Expr} {M : Kind → Type 0} {B : Breach → Type 0} (y : Expr-F Expr Selector Designator Item)
      (r : Result Computed g.Reported) → out-Expr e ≡ y → (expr_layer g (opened g y)).means s ≡ of_computed r
      → ((k : Kind) → M k → Reads s.types names exports y (AValue k))
      → ((x : Thing) → Reads s.types names exports y x → (k : Kind) × M k × (x ≡ AValue k))
      → ((f : Breach) → B f → InLayer y f) → ((f : Breach) → InLayer y f → B f)
      → Answers g j Elsewhere IsKind M B r → IsFound e
  value_layer y r h q mr rm bi ib a = by_layer y (of_computed r) h q
      (finds_as g j lawful Elsewhere (λ x m. subst (Reads s.types names exports y) (sym m.2) (mr m.0 m.1)) rm bi ib
      (computed_finds g j lawful Elsewhere a))

  -- ---- as values

  has_by : {e : Expr} {k : Kind} → HasKind e k → (x : Thing) × StandsFor e x × Taken s.types x k
  has_by (taken {x = x} m t) = (x, m, t)

  broken_value_by : {e : Expr} (f : Breach) → IsBrokenValue e f → IsBroken e f
      ⊎ ((x : Thing) × StandsFor e x × Mistaken (first e) x f)
  broken_value_by f (broken b) = inl b
  broken_value_by f (mistaken {x = x} m t) = inr (x, m, t)

  pub valued : {e : Expr} → IsFound e → IsValued e
  valued {e = e} h = exact g j lawful Elsewhere (λ k m. taken m.1 m.2) (λ k m. has_by m)
      (λ f b. elim b [ inl x ↦ broken x | inr x ↦ mistaken x.1 x.2 ]) broken_value_by
      (subst (λ (at : Pos). Answers g j Elsewhere IsKind (λ k. (x : Thing) × StandsFor e x × Taken s.types x k)
      (λ f. IsBroken e f ⊎ ((x : Thing) × StandsFor e x × Mistaken (first e) x f))
      (value_standing g s.types at ((meanings_of g e).means s)))
      (sym (at_is g e)) (value_answers g j lawful Elsewhere s.types (first e) h))

  -- an operand's refusals are its layer's
  pub operand_broken : {x : Expr} {y : Expr-F Expr Selector Designator Item} {f : Breach} → IsOperand x y
      → IsBrokenValue x f → InLayer y f
  operand_broken {x = x} i (broken b) = inr (x, an_operand i, b)
  operand_broken i (mistaken m t) = inl (no_operand i m t)

  -- ---- what is looked at

  abbrev pub AnyBroken : List Expr → Breach → Type 0
  AnyBroken xs f = (x : Expr) × Among x xs × IsBroken x f

  look_from : {B : Breach → Type 0} (xs : List Expr) (so : Result (Unit {0}) g.Reported)
      → ((x : Expr) → Among x xs → IsFound x) → Tells g j lawful Elsewhere B so
      → Tells g j lawful Elsewhere (λ f. B f ⊎ AnyBroken xs f) (fold (with_look g s) so (map (meanings_of g) xs))
  look_from [] so h t = tells_as g j lawful Elsewhere (λ f b. inl b)
      (λ f b. elim b [ inl x ↦ x | inr x ↦ elim x.1 [ ] ]) t
  look_from {B = B} (x ∷ xs) so h t = tells_as g j lawful Elsewhere {C = λ f. B f ⊎ AnyBroken (x ∷ xs) f}
      (λ f b. elim b [
        | inl c ↦ elim c [ inl d ↦ inl d | inr d ↦ inr (x, here, d) ]
        | inr c ↦ inr (c.0, later c.1, c.2)
      ]) (λ f b. apart f b)
      (look_from {B = λ f. B f ⊎ IsBroken x f} xs _ (λ z m. h z (later m))
      (beside_tells g j lawful Elsewhere t (heading_tells g j lawful Elsewhere (h x here))))
    where
      among : {z : Expr} (f : Breach) → Among z (x ∷ xs) → IsBroken z f → (B f ⊎ IsBroken x f) ⊎ AnyBroken xs f
      among f here b = inl (inr b)
      among {z = z} f (later m) b = inr (z, m, b)

      apart : (f : Breach) → B f ⊎ AnyBroken (x ∷ xs) f → (B f ⊎ IsBroken x f) ⊎ AnyBroken xs f
      apart f (inl b) = inl (inl b)
      apart f (inr (z, m, b)) = among f m b

  pub look_tells : (xs : List Expr) → ((x : Expr) → Among x xs → IsFound x)
      → Tells g j lawful Elsewhere (AnyBroken xs) (breaches_in_all g s (map (meanings_of g) xs))
  look_tells xs h = tells_as g j lawful Elsewhere (λ f b. elim b [ inl x ↦ absurd x | inr x ↦ x ]) (λ f b. inr b)
      (look_from {B = λ f. ⊥} xs (Ok tt) h (silent (λ f b. b)))
