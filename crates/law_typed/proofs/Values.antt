-- Expressions that are made of others by operators, and the code of values.
use Rattle.std.proofs.Common.{◌≡◌, ℕ, List, [], ◌∷◌, Option, Some, None, Result, Ok, Err, refl, sym, ap, subst, ◌∙◌}
use Rattle.std.specs.List.{fold}
use Rattle.m2_rule.specs.declared.rule.Rule.TheVariants as rule
use Rattle.m2_tree.specs.declared.pos.Pos.{Pos}
use Rattle.m2_tree.specs.declared.name.Ident.{Ident}
use Rattle.m2_tree.specs.declared.expr.MulOp.{MulOp}
use Rattle.m2_tree.specs.declared.expr.AddOp.{AddOp}
use Rattle.m2_tree.specs.declared.expr.RelOp.{RelOp}
use Rattle.m2_tree.specs.declared.expr.Sign.{Sign}
use Rattle.m2_tree.specs.declared.expr.Sign.TheVariants as sign
use Rattle.m2_tree.specs.declared.expr.Operator.{Operator}
use Rattle.m2_tree.specs.declared.expr.Expr.{Expr, Expr-F, out-Expr}
use Rattle.m2_tree.specs.declared.expr.Expr.TheOpen as layer
use Rattle.m2_tree.specs.declared.expr.Selector.{Selector}
use Rattle.m2_tree.specs.declared.expr.Designator.{Designator}
use Rattle.m2_tree.specs.declared.expr.Item.{Item}
use Rattle.typed_tree.specs.declared.types.TypeNo.{TypeNo}
use Rattle.typed_tree.specs.declared.computed.TypedExpr.{TypedExpr}
use Rattle.typed_tree.specs.declared.computed.TypedExpr.TheVariants as expr
use Rattle.typed_tree.specs.declared.known_types.Types.{Types}
use Rattle.typed_tree.specs.declared.meaning.Value.{Value as ConstantValue}
use Rattle.typed_tree.specs.declared.meaning.Value.TheVariants as value
use Rattle.check_scope.specs.declared.meaningless.Meaningless.{Meaningless}
use Rattle.check_scope.specs.declared.scope.Scope.{Scope}
use Rattle.check_scope.specs.Elaborated.{Gathers, both, ◌▷◌}
use Rattle.check_const.specs.declared.operator.BinaryOp.{BinaryOp}
use Rattle.check_const.specs.declared.operator.BinaryOp.TheVariants as op
use Rattle.check_const.specs.Operate.{with_sign as signed_constant, negation as negated_constant}
use Rattle.check_value.specs.declared.computed.Computed.{Computed}
use Rattle.check_value.specs.declared.computed.Computed.TheVariants as computed
use Rattle.check_value.specs.declared.computed.Designated.{Designated}
use Rattle.check_value.specs.declared.computed.Designated.TheVariants as designated
use Rattle.check_value.specs.Operations.{operation_on, of_value}
use Rattle.check_value.specs.Signs as signs
use Rattle.check_value.specs.Signs.{with_sign, negation}
use Rattle.check_expr.specs.Meanings.{Meant, meanings_of, value_of, value_standing, of_computed, expr_layer}
use Rattle.def_typing.specs.Parts.{Operand, Among, here, later, factors, addends, first}
use Rattle.def_typing.specs.Amounts.{Value}
use Rattle.def_typing.specs.Operators.{Kind, Scalar, operand, Makes, SignMakes}
use Rattle.def_typing.specs.Things.{Standing}
use Rattle.def_typing.specs.Expressions.{Has}
use Rattle.law_typing.specs.Judging.{Judges}
use Rattle.law_typing.specs.Exact.{Knows, kind_of, IsKind, kind_constant, kind_scalar, kind_set, kind_routine, kind_procedure, kind_whole, kind_untaken}
use Rattle.law_typing.proofs.Combining.{Lawful}
use Rattle.law_typing.proofs.Joining.{operated_answers}
use Rattle.law_typing.proofs.Singles.{signed_answers}
use Rattle.law_typing.proofs.Places.{meant_is, opened, at_is}
use Rattle.law_typing.proofs.Expressing.{step, fold_factors, fold_addends, exactly}
use Rattle.def_typed.specs.Named.{Senses}
use Rattle.def_typed.specs.Coded.{HasNoCode, Operates, Codes, constant_result, computed_result, Signed, constant_signed, plus, minus}
use Rattle.def_typed.specs.Expressions as rules
use Rattle.def_typed.specs.Expressions.{Computes, HasCode, no_code, a_code, Chains}
use Rattle.law_typed.specs.Typed.{IsOne, code_of}
use Rattle.law_typed.proofs.Meant.{IfMeant, meant, not_meant, if_as, if_also, if_then, if_both, if_right, if_where, if_reported, IsExactly, of_answers}
use Rattle.law_typed.proofs.Operators.{Coded, coded_as, constant_coded, operated_coded}

-- ---- which kinds have code

no_code_constant : (v : ConstantValue) → HasNoCode (kind_of v)
no_code_constant (value.Number n) = tt
no_code_constant (value.Scalar s) = tt
no_code_constant (value.Set bits) = tt
no_code_constant (value.Text text) = tt

-- a value with code, or without
pub data CodeIs (k : Kind) : Option TypedExpr → Type 0 where
  without_code : HasNoCode k → CodeIs k None
  with_code : (x : TypedExpr) → (HasNoCode k → ⊥) → CodeIs k (Some x)

pub code_is : {v : Computed} {k : Kind} → IsKind v k → CodeIs k (code_of v)
code_is (kind_constant v) = without_code (no_code_constant v)
code_is (kind_scalar t base e) = with_code e (λ z. z)
code_is (kind_set e) = with_code e (λ z. z)
code_is (kind_routine t e) = with_code e (λ z. z)
code_is (kind_procedure p) = with_code _ (λ z. z)
code_is (kind_whole t d) = without_code tt
code_is kind_untaken = without_code tt

-- the code of a result, by that of the operands
module _ (types : Types) (o : BinaryOp) (a : Kind) (c : Option TypedExpr) (b : Kind) (d : Option TypedExpr) where
  codes_by : {k : Kind} {e : Option TypedExpr} → CodeIs k e
      → ((z : TypedExpr) → e ≡ Some z → IsOne (Operates types o a c b d) z) → IsOne (Codes types o a c b d k) e
  codes_by {k = k} (without_code n) h = record { holds = constant_result n; alone = λ z r. alone z r }
    where
      alone : (z : Option TypedExpr) → Codes types o a c b d k z → z ≡ None
      alone _ (constant_result m) = refl
      alone _ (computed_result m r) = absurd (m n)
  codes_by {k = k} (with_code x n) h = record { holds = computed_result n (h x refl).holds; alone = λ z r. alone z r }
    where
      alone : (z : Option TypedExpr) → Codes types o a c b d k z → z ≡ Some x
      alone _ (constant_result m) = absurd (n m)
      alone _ (computed_result m r) = ap Some ((h x refl).alone _ r)

  pub codes_one : {k : Kind} {v : Computed} → IsKind v k → Coded (Operates types o a c b d) v
      → IsOne (Codes types o a c b d k) (code_of v)
  codes_one i h = codes_by (code_is i) h

-- ---- values

-- ---- signs

signed_none : {a : Kind} {o : Sign} {c : Option TypedExpr} → Signed a o None c → c ≡ None
signed_none constant_signed = refl

signed_plus : {a : Kind} {t : TypeNo} {x : TypedExpr} {c : Option TypedExpr} → a ≡ Scalar (Value t)
    → Signed a sign.Plus (Some x) c → c ≡ Some (expr.Plus t x)
signed_plus q (plus e) = cc (q, e)

signed_minus : {a : Kind} {x : TypedExpr} {c : Option TypedExpr} → Signed a sign.Minus (Some x) c
    → c ≡ Some (expr.Negate x)
signed_minus minus = refl

value_codeless : {R : Type 0} (r : Result ConstantValue R) → IfMeant (λ w. code_of w ≡ None) (of_value r)
value_codeless (Ok v) = meant _ refl
value_codeless (Err r) = not_meant r

module _ (g : Gathers) (j : Judges g) (lawful : Lawful g j) (names : Ident → Standing) (exports : ℕ → Ident → Standing)
    (senses : Senses) (s : Scope g.Reported) (knows : Knows g j names exports s) where
  abbrev H : Expr → Kind → Type 0
  H = Has s.types names exports

  abbrev C : Expr-F Expr Selector Designator Item → TypedExpr → Type 0
  C = Computes s.types names exports senses

  abbrev HC : Expr → Kind → Option TypedExpr → Type 0
  HC = HasCode s.types names exports senses

  -- An expression that is answered with code is computed by it.
  abbrev pub IsCoded : Expr → Type 0
  IsCoded e = IfMeant (Coded (C (out-Expr e))) (value_of g s (meanings_of g e))

  -- what is known of a value that is answered
  pub record IsValue (e : Expr) (v : Computed) : Type 0 where
    pub kind : Kind
    pub is : IsKind v kind
    pub has : H e kind
    pub one : (l : Kind) → H e l → l ≡ kind
    pub code : HC e kind (code_of v)
    pub alone : (c : Option TypedExpr) → HC e kind c → c ≡ code_of v

  code_by : {e : Expr} {k : Kind} {c : Option TypedExpr} → CodeIs k c
      → ((z : TypedExpr) → c ≡ Some z → IsOne (C (out-Expr e)) z) → HC e k c
      × ((d : Option TypedExpr) → HC e k d → d ≡ c)
  code_by {e = e} {k = k} (without_code n) h = (no_code n, λ d r. alone d r)
    where
      alone : (d : Option TypedExpr) → HC e k d → d ≡ None
      alone _ (no_code m) = refl
      alone _ (a_code m r) = absurd (m n)
  code_by {e = e} {k = k} (with_code x n) h = (a_code n (h x refl).holds, λ d r. alone d r)
    where
      alone : (d : Option TypedExpr) → HC e k d → d ≡ Some x
      alone _ (no_code m) = absurd (n m)
      alone _ (a_code m r) = ap Some ((h x refl).alone _ r)

  pub value_is : (e : Expr) → IsCoded e → IfMeant (IsValue e) (value_of g s (meanings_of g e))
  value_is e h = if_as (λ v p. let c = code_by {e = e} (code_is p.0.is) p.1 in
      record { kind = p.0.kind; is = p.0.is; has = p.0.has; one = p.0.one; code = c.0; alone = c.1 })
      (if_also (of_answers g j (exactly g j lawful names exports s knows e)) h)

  -- ---- layers

  standing_computed : {P : Computed → Type 0} {r : Result Computed g.Reported} (at : Pos) → IfMeant P r
      → IfMeant P (value_standing g s.types at (of_computed r))
  standing_computed at (meant v p) = meant v p
  standing_computed at (not_meant r) = not_meant r

  pub coded_by : (e : Expr) (y : Expr-F Expr Selector Designator Item) (r : Result Computed g.Reported) → out-Expr e ≡ y
      → (expr_layer g (opened g y)).means s ≡ of_computed r → IfMeant (Coded (C y)) r → IsCoded e
  coded_by e y r h q m = subst (λ (y : Expr-F Expr Selector Designator Item). IfMeant (Coded (C y))
      (value_of g s (meanings_of g e))) (sym h)
      (subst (λ (d : Result Designated (Meaningless g.Reported)). IfMeant (Coded (C y))
      (value_standing g s.types (meanings_of g e).fixed.at d))
      (sym (ap (λ (m : Meant g.Reported). m.means s) (meant_is g e y h) ∙ q)) (standing_computed _ m))

  -- ---- operators between two expressions

  -- what an operator makes of two values, with its code
  pub record IsResult (o : BinaryOp) (a b : Kind) (c d : Option TypedExpr) (v : Computed) : Type 0 where
    pub kind : Kind
    pub is : IsKind v kind
    pub makes : Makes s.types o (operand a) (operand b) kind
    pub one : (l : Kind) → Makes s.types o (operand a) (operand b) l → l ≡ kind
    pub code : IsOne (Codes s.types o (operand a) c (operand b) d kind) (code_of v)

  pub operated : (o : BinaryOp) (spot left right : Pos) {x y : Computed} {a b : Kind} → IsKind x a → IsKind y b
      → IfMeant (IsResult o a b (code_of x) (code_of y)) (operation_on g s.types o spot left x right y)
  operated o spot left right {x = x} {y = y} {a = a} {b = b} i m =
      if_as (λ v p. record {
        kind = p.0.kind;
        is = p.0.is;
        makes = p.0.has;
        one = p.0.one;
        code =
            codes_one s.types o (operand a) (code_of x) (operand b) (code_of y) p.0.is p.1;
      })
      (if_also (of_answers g j {O = λ f. ⊥} (operated_answers g j lawful (λ f. ⊥) s.types o spot left right i m))
      (operated_coded g s.types spot left right o i m))

  -- another derivation has the same kind and the same code
  step_same : (o : BinaryOp) {a : Kind} {c : Option TypedExpr} {f : Expr} {y v : Computed} (m : IsValue f y)
      (r : IsResult o a m.kind c (code_of y) v) {a' b' k' : Kind} {c' d' w : Option TypedExpr} → a' ≡ a → c' ≡ c
      → H f b' → HC f b' d' → Makes s.types o (operand a') (operand b') k'
      → Codes s.types o (operand a') c' (operand b') d' k' w → (k' ≡ r.kind) × (w ≡ code_of v)
  step_same o {a = a} {c = c} {f = f} {y = y} {v = v} m r {a' = a'} {b' = b'} {k' = k'} {c' = c'} {d' = d'} {w = w} ea
      ec hb hd mk cs = (ek, r.code.alone w same)
    where
      eb : b' ≡ m.kind
      eb = m.one b' hb

      ed : d' ≡ code_of y
      ed = m.alone d' (subst (λ (l : Kind). HC f l d') eb hd)

      ek : k' ≡ r.kind
      ek = r.one k' (subst (λ (l : Kind). Makes s.types o (operand a) (operand l) k') eb
          (subst (λ (l : Kind). Makes s.types o (operand l) (operand b') k') ea mk))

      same : Codes s.types o (operand a) c (operand m.kind) (code_of y) r.kind w
      same = subst (λ (l : Kind). Codes s.types o (operand a) c (operand m.kind) (code_of y) l w) ek
          (subst (λ (z : Option TypedExpr). Codes s.types o (operand a) c (operand m.kind) z k' w) ed
          (subst (λ (l : Kind). Codes s.types o (operand a) c (operand l) d' k' w) eb
          (subst (λ (z : Option TypedExpr). Codes s.types o (operand a) z (operand b') d' k' w) ec
          (subst (λ (l : Kind). Codes s.types o (operand l) c' (operand b') d' k' w) ea cs))))

  -- the same code of an operand
  code_same : {e : Expr} {x : Computed} (i : IsValue e x) {a : Kind} {c : Option TypedExpr} → H e a → HC e a c
      → (a ≡ i.kind) × (c ≡ code_of x)
  code_same {e = e} i {a = a} {c = c} h hc = let q = i.one a h in (q, i.alone c (subst (λ (l : Kind). HC e l c) q hc))

  pub relation_coded : (e a : Expr) (o : Operator RelOp) (b : Expr) → out-Expr e ≡ layer.Relation a o b → IsCoded a
      → IsCoded b → IsCoded e
  relation_coded e a o b h p q = coded_by e (layer.Relation a o b) _ h refl
      (if_then (if_both g (value_is a p) (value_is b q))
      (λ w i. if_as (λ v r. made w.0 w.1 v i.0 i.1 r) (operated (op.Relation o.op) _ _ _ i.0.is i.1.is)))
    where
      made : (x y v : Computed) (i : IsValue a x) (m : IsValue b y)
          → IsResult (op.Relation o.op) i.kind m.kind (code_of x) (code_of y) v → Coded (C (layer.Relation a o b)) v
      made x y v i m r z e = record {
        holds =
            rules.relation i.has i.code m.has m.code r.makes
            (subst (Codes s.types (op.Relation o.op) (operand i.kind) (code_of x) (operand m.kind) (code_of y) r.kind) e
            r.code.holds);
        alone = λ w c. alone w c;
      }
        where
          alone : (w : TypedExpr) → C (layer.Relation a o b) w → w ≡ z
          alone w (rules.relation ha hc hb hd mk c) = let l = code_same i ha hc in
              cc ((step_same (op.Relation o.op) m r l.0 l.1 hb hd mk c).1, e)

  -- ---- operators one after another

  broken_right : {P : Computed → Type 0} (r : g.Reported) (v : Result Computed g.Reported)
      (f : Computed × Computed → Result Computed g.Reported)
      (h : Result Computed g.Reported → Result Computed g.Reported) → ((q : g.Reported) → IfMeant P (h (Err q)))
      → IfMeant P (h (both g (Err r) v ▷ f))
  broken_right r (Ok v) f h n = n r
  broken_right r (Err q) f h n = n (g.join r q)

  broken_fold : {P : Computed → Type 0} (left : Pos) (xs : List Operand) (r : g.Reported)
      → IfMeant P (fold (step g j lawful names exports s knows left) (Err r) xs)
  broken_fold left [] r = not_meant r
  broken_fold left (x ∷ xs) r = broken_right r (value_of g s (meanings_of g x.of)) _
      (λ v. fold (step g j lawful names exports s knows left) v xs) (λ q. broken_fold left xs q)

  fold_from : {P Q : Computed → Type 0} (left : Pos) (xs : List Operand) {r : Result Computed g.Reported} → IfMeant Q r
      → ((v : Computed) → Q v → IfMeant P (fold (step g j lawful names exports s knows left) (Ok v) xs))
      → IfMeant P (fold (step g j lawful names exports s knows left) r xs)
  fold_from left xs (meant v q) h = h v q
  fold_from left xs (not_meant r) h = broken_fold left xs r

  abbrev Chained : Kind → Option TypedExpr → List Operand → Option TypedExpr → Type 0
  Chained = Chains s.types names exports senses

  chain_same : {k l : Kind} {c d w : Option TypedExpr} {xs : List Operand} → k ≡ l → c ≡ d → Chained k c xs w
      → Chained l d xs w
  chain_same {k = k} {d = d} {w = w} {xs = xs} ek ec h =
      subst (λ (l : Kind). Chained l d xs w) ek (subst (λ (c : Option TypedExpr). Chained k c xs w) ec h)

  chain_coded : (left : Pos) (xs : List Operand) → ((x : Operand) → Among x xs → IsCoded x.of)
      → {x : Computed} {a : Kind} → IsKind x a
      → IfMeant (λ v. IsOne (Chained a (code_of x) xs) (code_of v))
      (fold (step g j lawful names exports s knows left) (Ok x) xs)
  chain_coded left [] h {x = x} {a = a} i = meant x (record { holds = rules.done; alone = λ c r. alone c r })
    where
      alone : (c : Option TypedExpr) → Chained a (code_of x) [] c → c ≡ code_of x
      alone _ rules.done = refl
  chain_coded left (y ∷ ys) h {x = x} {a = a} i =
      fold_from left ys (if_right g _ x (value_is y.of (h y here))
      (λ z m. if_as (λ v r. let p : (n : (z : Computed) × IsValue y.of z)
      × IsResult y.op a n.1.kind (code_of x) (code_of n.0) v = ((z, m), r) in p) (operated y.op y.spot left _ i m.is)))
      (λ v q. if_as (λ w u. further v q.0 q.1 w u) (chain_coded left ys (λ z n. h z (later n)) q.1.is))
    where
      further : (v : Computed) (m : (z : Computed) × IsValue y.of z)
          (r : IsResult y.op a m.1.kind (code_of x) (code_of m.0) v) (w : Computed)
          → IsOne (Chained r.kind (code_of v) ys) (code_of w) → IsOne (Chained a (code_of x) (y ∷ ys)) (code_of w)
      further v m r w u = record {
        holds = rules.then m.1.has m.1.code r.makes r.code.holds u.holds;
        alone =
            λ c d. alone c d;
      }
        where
          alone : (c : Option TypedExpr) → Chained a (code_of x) (y ∷ ys) c → c ≡ code_of w
          alone c (rules.then hb hd mk cs rest) = let q = step_same y.op m.1 r refl refl hb hd mk cs in
              u.alone c (chain_same q.0 q.1 rest)

  -- a term or a sum with a first operand of this kind and code
  chained : (v : Computed) {P : TypedExpr → Type 0} {a : Kind} {c : Option TypedExpr} {xs : List Operand}
      → IsOne (Chained a c xs) (code_of v) → ((w : TypedExpr) → Chained a c xs (Some w) → P w)
      → ((w : TypedExpr) → P w → Chained a c xs (Some w)) → Coded P v
  chained v {P = P} {a = a} {c = c} {xs = xs} u into out z e =
      record {
        holds = into z (subst (Chained a c xs) e u.holds);
        alone = λ w p. let q = u.alone (Some w) (out w p) in
            cc (q, e);
      }

  pub term_coded : (e x : Expr) (rest : List (Operator MulOp × Expr)) → out-Expr e ≡ layer.Term x rest → IsCoded x
      → ((y : Operand) → Among y (factors rest) → IsCoded y.of) → IsCoded e
  term_coded e x rest h p q = coded_by e (layer.Term x rest)
      (fold (step g j lawful names exports s knows (first x)) (value_of g s (meanings_of g x)) (factors rest)) h
      (ap (λ (r : Result Computed g.Reported). of_computed r)
      (fold_factors g j lawful names exports s knows (meanings_of g x).fixed.at rest
      (value_of g s (meanings_of g x)) ∙ ap
      (λ (t : Pos). fold (step g j lawful names exports s knows t) (value_of g s (meanings_of g x)) (factors rest))
      (at_is g x)))
      (fold_from (first x) (factors rest) (value_is x p)
      (λ v i. if_as (λ w u. chained w u (λ z c. rules.term i.has i.code c) (λ z c. out i z c))
      (chain_coded (first x) (factors rest) q i.is)))
    where
      out : {v : Computed} (i : IsValue x v) (z : TypedExpr) → C (layer.Term x rest) z
          → Chained i.kind (code_of v) (factors rest) (Some z)
      out i z (rules.term ha hc c) = let l = code_same i ha hc in chain_same l.0 l.1 c

  pub sum_coded : (e x : Expr) (rest : List (Operator AddOp × Expr)) → out-Expr e ≡ layer.Sum None x rest → IsCoded x
      → ((y : Operand) → Among y (addends rest) → IsCoded y.of) → IsCoded e
  sum_coded e x rest h p q = coded_by e (layer.Sum None x rest)
      (fold (step g j lawful names exports s knows (first x)) (value_of g s (meanings_of g x)) (addends rest)) h
      (ap (λ (r : Result Computed g.Reported). of_computed r)
      (fold_addends g j lawful names exports s knows (meanings_of g x).fixed.at rest
      (value_of g s (meanings_of g x)) ∙ ap
      (λ (t : Pos). fold (step g j lawful names exports s knows t) (value_of g s (meanings_of g x)) (addends rest))
      (at_is g x)))
      (fold_from (first x) (addends rest) (value_is x p)
      (λ v i. if_as (λ w u. chained w u (λ z c. rules.sum i.has i.code c) (λ z c. out i z c))
      (chain_coded (first x) (addends rest) q i.is)))
    where
      out : {v : Computed} (i : IsValue x v) (z : TypedExpr) → C (layer.Sum None x rest) z
          → Chained i.kind (code_of v) (addends rest) (Some z)
      out i z (rules.sum ha hc c) = let l = code_same i ha hc in chain_same l.0 l.1 c

  -- ---- signs

  signed_coded : (o : Sign) (spot : Pos) {x : Computed} {a : Kind} → IsKind x a
      → IfMeant (λ v. IsOne (Signed a o (code_of x)) (code_of v)) (signs.signed_value g o spot x)
  signed_coded o spot (kind_constant v) =
      if_as (λ w e. subst (IsOne (Signed (kind_of v) o None)) (sym e)
      (record { holds = constant_signed; alone = λ c r. signed_none r }))
      (value_codeless (signed_constant g o spot (Ok v)))
  signed_coded sign.Plus spot (kind_scalar t b x) =
      if_where g _ spot rule.WrongType (λ e. meant _ (record { holds = plus refl; alone = λ c r. signed_plus refl r }))
  signed_coded sign.Minus spot (kind_scalar t b x) =
      if_where g _ spot rule.WrongType (λ e. meant _ (record { holds = minus; alone = λ c r. signed_minus r }))
  signed_coded o spot (kind_set x) = if_reported g spot rule.WrongType
  signed_coded o spot (kind_routine t x) = if_reported g spot rule.WrongType
  signed_coded o spot (kind_procedure p) = if_reported g spot rule.WrongType
  signed_coded o spot (kind_whole t d) = if_reported g spot rule.WrongType
  signed_coded o spot kind_untaken = if_reported g spot rule.WrongType

  -- a first operand with its sign
  abbrev Begins : Operator Sign → Expr → Computed → Type 0
  Begins sign x v = (y : Computed) × (i : IsValue x y) × IsExactly IsKind (SignMakes sign.op (operand i.kind)) v
      × IsOne (Signed i.kind sign.op (code_of y)) (code_of v)

  pub signed_sum_coded : (e : Expr) (sign : Operator Sign) (x : Expr) (rest : List (Operator AddOp × Expr))
      → out-Expr e ≡ layer.Sum (Some sign) x rest → IsCoded x → ((y : Operand) → Among y (addends rest) → IsCoded y.of)
      → IsCoded e
  signed_sum_coded e sign x rest h p q = coded_by e (layer.Sum (Some sign) x rest)
      (fold (step g j lawful names exports s knows sign.pos)
      (with_sign g sign.op sign.pos (value_of g s (meanings_of g x))) (addends rest)) h
      (ap (λ (r : Result Computed g.Reported). of_computed r)
      (fold_addends g j lawful names exports s knows sign.pos rest
      (with_sign g sign.op sign.pos (value_of g s (meanings_of g x)))))
      (fold_from sign.pos (addends rest) signed
      (λ v i. if_as (λ w u. chained w u (λ z c. rules.signed_sum i.1.has i.1.code i.2.has i.3.holds c)
      (λ z c. out i z c)) (chain_coded sign.pos (addends rest) q i.2.is)))
    where
      signed : IfMeant (Begins sign x) (with_sign g sign.op sign.pos (value_of g s (meanings_of g x)))
      signed = if_then (value_is x p) (λ y i. if_as (λ v r. (y, i, r.0, r.1))
          (if_also (of_answers g j {O = λ f. ⊥} (signed_answers g j lawful (λ f. ⊥) sign.op sign.pos i.is))
          (signed_coded sign.op sign.pos i.is)))

      out : {v : Computed} (i : Begins sign x v) (z : TypedExpr) → C (layer.Sum (Some sign) x rest) z
          → Chained i.2.kind (code_of v) (addends rest) (Some z)
      out {v = v} i z (rules.signed_sum {a = a} {b = b} {c = c} {d = d} ha hc m sg r) = let l = code_same i.1 ha hc in
          chain_same (i.2.one b (subst (λ (k : Kind). SignMakes sign.op (operand k) b) l.0 m))
          (i.3.alone d (subst (λ (k : Kind). Signed k sign.op (code_of i.0) d) l.0
          (subst (λ (z : Option TypedExpr). Signed a sign.op z d) l.1 sg))) r

  -- ---- NOT and brackets

  negated_coded : (spot : Pos) {x : Computed} {a : Kind} → IsKind x a → (P : TypedExpr → Type 0)
      → ((c : TypedExpr) → code_of x ≡ Some c → IsOne P (expr.Not c)) → IfMeant (Coded P) (signs.negated_value g spot x)
  negated_coded spot (kind_constant v) P h = constant_coded (negated_constant g spot (Ok v))
  negated_coded spot (kind_scalar t b x) P h =
      if_where g _ spot rule.WrongType (λ e. coded_as _ _ refl (h x refl).holds (h x refl).alone)
  negated_coded spot (kind_set x) P h = if_reported g spot rule.WrongType
  negated_coded spot (kind_routine t x) P h = if_reported g spot rule.WrongType
  negated_coded spot (kind_procedure p) P h = if_reported g spot rule.WrongType
  negated_coded spot (kind_whole t d) P h = if_reported g spot rule.WrongType
  negated_coded spot kind_untaken P h = if_reported g spot rule.WrongType

  pub not_coded : (e : Expr) (at : Pos) (x : Expr) → out-Expr e ≡ layer.Not at x → IsCoded x → IsCoded e
  not_coded e at x h p = coded_by e (layer.Not at x) (negation g at (value_of g s (meanings_of g x))) h refl
      (if_then (if_also (value_is x p) p) (λ v i. negated_coded at i.0.is (C (layer.Not at x)) (λ c q. made (i.1 c q))))
    where
      made : {c : TypedExpr} → IsOne (C (out-Expr x)) c → IsOne (C (layer.Not at x)) (expr.Not c)
      made {c = c} u = record { holds = rules.negated u.holds; alone = λ w r. alone w r }
        where
          alone : (w : TypedExpr) → C (layer.Not at x) w → w ≡ expr.Not c
          alone _ (rules.negated r) = ap (λ (z : TypedExpr). expr.Not z) (u.alone _ r)

  pub brackets_coded : (e : Expr) (at : Pos) (x : Expr) → out-Expr e ≡ layer.Bracketed at x → IsCoded x → IsCoded e
  brackets_coded e at x h p = coded_by e (layer.Bracketed at x) (value_of g s (meanings_of g x)) h refl
      (if_as (λ v u z q. made (u z q)) p)
    where
      made : {c : TypedExpr} → IsOne (C (out-Expr x)) c → IsOne (C (layer.Bracketed at x)) c
      made {c = c} u = record { holds = rules.bracketed u.holds; alone = λ w r. alone w r }
        where
          alone : (w : TypedExpr) → C (layer.Bracketed at x) w → w ≡ c
          alone w (rules.bracketed r) = u.alone w r

  -- ---- what stands for itself

  pub constant_layer : (e : Expr) (y : Expr-F Expr Selector Designator Item) (v : ConstantValue) → out-Expr e ≡ y
      → (expr_layer g (opened g y)).means s ≡ Ok (designated.Value (computed.Constant v)) → IsCoded e
  constant_layer e y v h q = coded_by e y (Ok (computed.Constant v)) h q (meant _ (λ z r. absurd cc))
