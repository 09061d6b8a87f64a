-- All labels are answered exactly, and which of them are there twice.
use Rattle.std.proofs.Common.{◌≡◌, ℕ, Bool, true, false, cond, List, [], ◌∷◌, ◌++◌, Option, Some, None, Result, Ok, ◌⊎◌, inl, inr, refl, sym, ap, subst, ◌∙◌}
use Rattle.std.specs.Prelude.{not, int_lt}
use Rattle.std.specs.List.{fold}
use Rattle.m2_rule.specs.declared.breach.Breach.{Breach}
use Rattle.m2_rule.specs.declared.rule.Rule.TheVariants as rule
use Rattle.m2_tree.specs.declared.pos.Pos.{Pos}
use Rattle.m2_tree.specs.declared.name.Ident.{Ident}
use Rattle.m2_tree.specs.declared.expr.Item.{Item, out-Item}
use Rattle.typed_tree.specs.declared.types.TypeNo.{TypeNo}
use Rattle.typed_tree.specs.Types.{are_same}
use Rattle.typed_tree.specs.declared.statement.Label.{Label}
use Rattle.check_scope.specs.declared.scope.Scope.{Scope}
use Rattle.check_scope.specs.Elaborated.{Gathers, reported_where}
use Rattle.check_const.specs.declared.operand.Ordinal.{Ordinal}
use Rattle.check_stmt_parts.specs.Ranges.{is_below, is_at_most, Range, is_met, with_range, enter_range}
use Rattle.check_stmt_parts.specs.Lists.{with_next}
use Rattle.check_stmt_parts.specs.Labels.{Bounds, base_of, point_of, Labels, label_by, with_label, with_item, labels_in, item_label}
use Rattle.check_stmt_parts.proofs.Points.{not_behind}
use Rattle.def_typing.specs.Operators.{◌!◌}
use Rattle.def_typing.specs.Things.{Standing}
use Rattle.def_typing.specs.Parts.{first}
use Rattle.def_typing.specs.Cases as rules
use Rattle.def_typing.specs.Cases.{Number, Values, AreOfOneBase, ShareValues, IsLabel, BrokenLabel, IsTwice, AreLabels, BrokenLabels}
use Rattle.law_typing.specs.Judging.{Judges, Answers, means, refuses}
use Rattle.law_typing.specs.Exact.{Knows, Repeats}
use Rattle.law_typing.proofs.Combining.{Lawful, Decided, holds, fails_it, decided_as, accounts_as, Checks, passes, stops, stopped, checks_as, both_checks, map_checks}
use Rattle.law_typing.proofs.Meeting.{one_base_decided, turned, place, span, below_is, Touches, meets_touches, touches_meets, Met, met_decided, Filled, inserted, insert_parts, parts_insert, new_start}
use Rattle.law_typing.proofs.Labelling.{spanned, IsSpan, is_span, no_span, label_answers}
use Rattle.law_typing.proofs.Places.{at_is}

-- labels in front of others, the nearest first
abbrev pub behind : List Item → List Item → List Item
behind [] front = front
behind (i ∷ is) front = behind is (i ∷ front)

module _ (g : Gathers) (j : Judges g) (lawful : Lawful g j) (names : Ident → Standing) (exports : ℕ → Ident → Standing)
    (s : Scope g.Reported) (knows : Knows g j names exports s) (base : Option TypeNo) where
  abbrev O : Breach → Type 0
  O = Repeats g j names s

  abbrev L : Item → Values → Type 0
  L i a = IsLabel s.types names exports base i a

  abbrev BL : Item → Breach → Type 0
  BL i = BrokenLabel s.types names exports base i

  abbrev Twice : List Item → Values → Type 0
  Twice front b = IsTwice s.types names exports base front b

  abbrev T : List Item → Number × Number → Type 0
  T front b = Twice front (Some b)

  -- what is there twice has values, of one base
  twice_base : (front : List Item) (b : Number × Number) → T front b → AreOfOneBase b.0.0 b.1.0
  twice_base [] b t = absurd t
  twice_base (i ∷ front) b (inl (Some a, l, m, n)) = m.second_base
  twice_base (i ∷ front) b (inl (None, l, m, n)) = absurd m
  twice_base (i ∷ front) b (inr t) = twice_base front b t

  never_twice : (front : List Item) → Twice front None → ⊥
  never_twice [] t = t
  never_twice (i ∷ front) (inl (Some a, l, m, n)) = m
  never_twice (i ∷ front) (inl (None, l, m, n)) = m
  never_twice (i ∷ front) (inr t) = never_twice front t

  abbrev some_values : Number × Number → Values → Number × Number
  some_values a (Some x) = x
  some_values a None = a

  one_span : {a x : Number × Number} → Some x ≡ Some a → x ≡ a
  one_span {a = a} e = ap (some_values a) e

  -- The ranges that are kept meet what is there twice.
  pub record Keeps (front : List Item) (rs : List Range) : Type 0 where
    pub filled : Filled rs
    pub met : (b : Number × Number) → AreOfOneBase b.0.0 b.1.0 → Met rs b → T front b
    pub twice : (b : Number × Number) → T front b → Met rs b

  pub keeps_none : Keeps [] []
  keeps_none = record { filled = λ r m. elim m [ ]; met = λ b w m. elim m.1 [ ]; twice = λ b z. absurd z }

  twice_decided : {front : List Item} {rs : List Range} → Keeps front rs → (b : Number × Number)
      → AreOfOneBase b.0.0 b.1.0 → Decided (T front b) (is_met (place b.0) (place b.1) rs)
  twice_decided {rs = rs} k b w = decided_as (k.met b w) (k.twice b) (met_decided b rs)

  -- a label that adds nothing
  keeps_same : {front : List Item} {rs : List Range} {i : Item} → Keeps front rs
      → ((a b : Number × Number) → L i (Some a) → ShareValues a b → (T front a → ⊥) → ⊥) → Keeps (i ∷ front) rs
  keeps_same {front = front} {rs = rs} {i = i} k h =
      record { filled = k.filled; met = λ b w m. inr (k.met b w m); twice = λ b t. twice_same b t }
    where
      twice_same : (b : Number × Number) → T (i ∷ front) b → Met rs b
      twice_same b (inl (Some a, l, m, n)) = absurd (h a b l m n)
      twice_same b (inl (None, l, m, n)) = absurd m
      twice_same b (inr t) = k.twice b t

  module _ {front : List Item} {rs : List Range} {i : Item} (k : Keeps front rs) (a : Number × Number)
      (is : L i (Some a)) (only : (x : Values) → L i x → x ≡ Some a) (one : AreOfOneBase a.0.0 a.1.0)
      (new : T front a → ⊥) where
    not_met : Met rs a → ⊥
    not_met m = new (k.met a one m)

    -- it has values, or none, as the order of its bounds says
    valued : {e : Bool} → is_below (place a.1) (place a.0) ≡ e → int_lt a.1.1 a.0.1 ≡ e
    valued v = sym (below_is a.1 a.0 (turned one)) ∙ v

    filled_it : is_below (place a.1) (place a.0) ≡ false → is_at_most (place a.0) (place a.1) ≡ true
    filled_it v = not_behind (place a.0) (place a.1) v

    filled_more : is_below (place a.1) (place a.0) ≡ false → Filled (inserted (span a) rs)
    filled_more v r m = elim (insert_parts r (span a) rs (new_start a rs (filled_it v) k.filled not_met) m)
        [ inl e ↦ subst (λ (x : Range). is_at_most x.0 x.1 ≡ true) (sym e) (filled_it v) | inr n ↦ k.filled r n ]

    met_more : is_below (place a.1) (place a.0) ≡ false → (b : Number × Number) → AreOfOneBase b.0.0 b.1.0
        → Met (inserted (span a) rs) b → T (i ∷ front) b
    met_more v b w (r, m, q) = elim (insert_parts r (span a) rs (new_start a rs (filled_it v) k.filled not_met) m) [
      | inl e ↦ inl (Some a, is, touches_meets a b one w (valued v) (subst (λ (x : Range). Touches x b) e q), new)
      | inr n ↦ inr (k.met b w (r, n, q))
    ]

    twice_more : is_below (place a.1) (place a.0) ≡ false → (b : Number × Number) → T (i ∷ front) b
        → Met (inserted (span a) rs) b
    twice_more v b (inl (None, l, q, n)) = absurd q
    twice_more v b (inl (Some x, l, q, n)) = (
      span a,
      parts_insert (span a) (span a) rs (new_start a rs (filled_it v) k.filled not_met) (inl refl),
      meets_touches (subst (λ (x : Number × Number). ShareValues x b) (one_span (only (Some x) l)) q),
    )
    twice_more v b (inr t) = let z = k.twice b t in
        (z.0, parts_insert z.0 (span a) rs (new_start a rs (filled_it v) k.filled not_met) (inr z.1), z.2)

    no_values : is_below (place a.1) (place a.0) ≡ true → (x b : Number × Number) → L i (Some x) → ShareValues x b → ⊥
    no_values v x b l q = let w = subst (λ (x : Number × Number). ShareValues x b) (one_span (only (Some x) l)) q in
        let clash : true ≡ false = sym (valued v) ∙ w.has_values in absurd cc

    keeps_by : (e : Bool) → is_below (place a.1) (place a.0) ≡ e → Keeps (i ∷ front) (cond e rs (inserted (span a) rs))
    keeps_by true v = keeps_same k (λ x b l q n. no_values v x b l q)
    keeps_by false v = record { filled = filled_more v; met = met_more v; twice = twice_more v }

    keeps_more : Keeps (i ∷ front) (with_range (place a.0) (place a.1) rs)
    keeps_more = keeps_by (is_below (place a.1) (place a.0)) refl

  -- ---- one more label

  abbrev Right : List Item → Item → Type 0
  Right front i = (a : Values) × L i a × (Twice front a → ⊥)

  abbrev Wrong : List Item → Item → Breach → Type 0
  Wrong front i f = BL i f ⊎ ((a : Values) × L i a × Twice front a × (f ≡ first (out-Item i).low ! rule.WrongLabel))

  module _ (front : List Item) (i : Item) where
    abbrev After : (P : Type 0) → (Breach → Type 0) → Labels g.Reported → Type 0
    After P B q = Keeps (i ∷ front) q.0 × Checks g j lawful O {A = List Label} (P × Right front i)
        (λ f. B f ⊎ Wrong front i f) q.1

    abbrev at : Pos
    at = first (out-Item i).low

    listed : {P : Type 0} {B : Breach → Type 0} {so : Result (List Label) g.Reported} {r : Result Label g.Reported}
        → Checks g j lawful O {A = List Label} P B so
        → Checks g j lawful O {A = Label} (Right front i) (Wrong front i) r
        → Checks g j lawful O {A = List Label} (P × Right front i) (λ f. B f ⊎ Wrong front i f) (with_next g so r)
    listed c d = map_checks g j lawful O (λ (p : List Label × Label). p.0 ++ p.1 ∷ []) (both_checks g j lawful O c d)

    module _ {rs : List Range} (k : Keeps front rs) {P : Type 0} {B : Breach → Type 0}
        {so : Result (List Label) g.Reported} (c : Checks g j lawful O {A = List Label} P B so) where
      abbrev AfterLabel : Ordinal × Ordinal → List Range × Bool → Type 0
      AfterLabel b t = After P B (t.0, with_next g so (reported_where g (not t.1) at rule.WrongLabel (Ok (label_by b))))

      new_by : (b : Ordinal × Ordinal) → L i (Some (spanned b)) → ((x : Values) → L i x → x ≡ Some (spanned b))
          → ((f : Breach) → BL i f → ⊥) → AreOfOneBase b.0.sort b.1.sort → (e : Bool) → Decided (T front (spanned b)) e
          → AfterLabel b (cond e (rs, false) (with_range (point_of b.0) (point_of b.1) rs, true))
      new_by b m u n one _ (holds t) = (
        keeps_same k (λ a x z q w. w (subst (T front) (sym (one_span (u (Some a) z))) t)),
        listed c (stopped g j lawful O at rule.WrongLabel (λ z. z.2 (subst (Twice front) (sym (u z.0 z.1)) t))
            (inr (Some (spanned b), m, t, refl)) (λ f z. elim z [ inl y ↦ absurd (n f y) | inr q ↦ q.3 ])),
      )
      new_by b m u n one _ (fails_it w) = (
        keeps_more k (spanned b) m u one w,
        listed c (passes (label_by b) (Some (spanned b), m, w)
            (λ f z. elim z [ inl y ↦ n f y | inr q ↦ w (subst (Twice front) (u q.0 q.1) q.2) ])),
      )

      -- a label whose bounds are of two bases is never there twice
      entered : (b : Ordinal × Ordinal) → L i (Some (spanned b)) → ((x : Values) → L i x → x ≡ Some (spanned b))
          → ((f : Breach) → BL i f → ⊥) → (e : Bool) → Decided (AreOfOneBase b.0.sort b.1.sort) e
          → AfterLabel b (cond e (enter_range (point_of b.0) (point_of b.1) rs) (rs, true))
      entered b m u n _ (holds one) = new_by b m u n one (is_met (point_of b.0) (point_of b.1) rs)
          (twice_decided k (spanned b) one)
      entered b m u n _ (fails_it w) = (
        keeps_same k (λ a x z q v. w (subst (λ (y : Number × Number). AreOfOneBase y.0.0 y.1.0)
            (one_span (u (Some a) z)) q.first_base)),
        listed c (passes (label_by b) (Some (spanned b), m, λ t. w (twice_base front (spanned b) t))
            (λ f z. elim z [
              | inl y ↦ n f y
              | inr q ↦ w
                  (twice_base front (spanned b) (subst (Twice front) (u q.0 q.1) q.2))
            ])),
      )

      -- a label that stands for no values
      no_label : L i None → ((x : Values) → L i x → x ≡ None) → ((f : Breach) → BL i f → ⊥) → After P B (rs, so)
      no_label m u n = (
        keeps_same k (λ a x z q v. let clash = u (Some a) z in absurd cc),
        checks_as g j lawful O (λ p. (p, (None, m, never_twice front))) (λ z. z.0) (λ f b. inl b)
            (λ f z. elim z [
              | inl b ↦ b
              | inr w ↦ elim w
                  [ inl y ↦ absurd (n f y) | inr q ↦ absurd (never_twice front (subst (Twice front) (u q.0 q.1) q.2)) ]
            ]) c,
      )

      labelled : {r : Result Bounds g.Reported} → Answers g j O IsSpan (L i) (BL i) r
          → After P B (with_label g at (rs, so) r)
      labelled (means _ _ (is_span b) m u n) =
          entered b m u n (are_same (base_of b.0.sort) (base_of b.1.sort)) (one_base_decided b.0.sort b.1.sort)
      labelled (means _ _ no_span m u n) = no_label m u n
      labelled (refuses r a n) = (
        keeps_same k (λ x b l q w. n (Some x) l),
        listed c
            (stops r (accounts_as g j lawful O (λ f b. inl b) (λ f z. elim z [ inl b ↦ b | inr q ↦ absurd (n q.0 q.1) ])
            a) (λ z. n z.0 z.1)),
      )

      item_checks : After P B (with_item g s base (rs, so) i)
      item_checks = subst (λ (x : Pos). After P B (with_label g x (rs, so) (item_label g s base i)))
          (sym (at_is g (out-Item i).low))
          (labelled (label_answers g j lawful names exports s knows base i))

  -- ---- all labels

  abbrev AL : List Item → List Item → Type 0
  AL front is = AreLabels s.types names exports base front is

  abbrev BLs : List Item → List Item → Breach → Type 0
  BLs front is = BrokenLabels s.types names exports base front is

  label_more : {front is : List Item} {i : Item} → Right front i → AL (i ∷ front) is → AL front (i ∷ is)
  label_more (a, l, n) r = rules.one_label l n r

  label_parts : {front is : List Item} {i : Item} → AL front (i ∷ is) → Right front i × AL (i ∷ front) is
  label_parts (rules.one_label {a = a} l w r) = ((a, l, w), r)

  broken_more : {front is : List Item} {i : Item} (f : Breach) → Wrong front i f ⊎ BLs (i ∷ front) is f
      → BLs front (i ∷ is) f
  broken_more f (inl (inl b)) = rules.in_label b
  broken_more {front = front} {is = is} {i = i} f (inl (inr (a, l, t, e))) =
      subst (BLs front (i ∷ is)) (sym e) (rules.there_twice l t)
  broken_more f (inr b) = rules.behind_label b

  broken_parts : {front is : List Item} {i : Item} {f : Breach} → BLs front (i ∷ is) f → Wrong front i f
      ⊎ BLs (i ∷ front) is f
  broken_parts (rules.in_label b) = inl (inl b)
  broken_parts (rules.there_twice {a = a} l t) = inl (inr (a, l, t, refl))
  broken_parts (rules.behind_label b) = inr b

  abbrev Behind : List Item → List Item → (P : Type 0) → (Breach → Type 0) → Labels g.Reported → Type 0
  Behind front is P B q = Keeps (behind is front) q.0
      × Checks g j lawful O {A = List Label} (P × AL front is) (λ f. B f ⊎ BLs front is f) q.1

  labels_from : (is : List Item) → (front : List Item) {rs : List Range} → Keeps front rs
      → {P : Type 0} {B : Breach → Type 0} {so : Result (List Label) g.Reported}
      → Checks g j lawful O {A = List Label} P B so
      → Behind front is P B (fold (with_item g s base) (rs, so) is)
  labels_from [] front k c = (
    k,
    checks_as g j lawful O (λ q. (q, rules.no_label)) (λ q. q.0) (λ f b. inl b)
        (λ f z. elim z [ inl b ↦ b | inr b ↦ elim b [ ] ]) c,
  )
  labels_from (i ∷ is) front k {P = P} {B = B} c = let q = item_checks front i k c in
      let r = labels_from is (i ∷ front) q.0 q.1 in (
        r.0,
        checks_as g j lawful O (λ z. (z.0.0, label_more z.0.1 z.1)) (λ z. let y = label_parts z.1 in ((z.0, y.0), y.1))
            (λ f z. elim z [
              | inl y ↦ elim y [ inl b ↦ inl b | inr w ↦ inr (broken_more f (inl w)) ]
              | inr b ↦ inr
                  (broken_more f (inr b))
            ])
            (λ f z. elim z [
              | inl b ↦ inl (inl b)
              | inr b ↦ elim (broken_parts b) [ inl w ↦ inl (inr w) | inr d ↦ inr d ]
            ])
            r.1,
      )

  pub labels_check : (is : List Item) → (front : List Item) {rs : List Range} → Keeps front rs
      → Keeps (behind is front) (labels_in g s base rs is).0
      × Checks g j lawful O {A = List Label} (AL front is) (BLs front is) (labels_in g s base rs is).1
  labels_check is front k = let q = labels_from is front k {P = Unit {0}} {B = λ f. ⊥} (passes [] tt (λ f b. b)) in (
    q.0,
    checks_as g j lawful O (λ z. z.1) (λ z. (tt, z)) (λ f z. elim z [ inl b ↦ absurd b | inr b ↦ b ])
        (λ f b. inr b) q.1,
  )

  -- labels of two lists

  pub labels_join : (is : List Item) {front js : List Item} → AL front is → AL (behind is front) js
      → AL front (is ++ js)
  labels_join [] a b = b
  labels_join (i ∷ is) a b = let q = label_parts a in label_more q.0 (labels_join is q.1 b)

  pub labels_split : (is : List Item) {front js : List Item} → AL front (is ++ js) → AL front is
      × AL (behind is front) js
  labels_split [] a = (rules.no_label, a)
  labels_split (i ∷ is) a = let q = label_parts a in let r = labels_split is q.1 in (label_more q.0 r.0, r.1)

  pub broken_join : (is : List Item) {front js : List Item} (f : Breach) → BLs front is f ⊎ BLs (behind is front) js f
      → BLs front (is ++ js) f
  broken_join [] f (inl b) = elim b [ ]
  broken_join [] f (inr b) = b
  broken_join (i ∷ is) f (inl b) = elim (broken_parts b)
      [ inl w ↦ broken_more f (inl w) | inr d ↦ broken_more f (inr (broken_join is f (inl d))) ]
  broken_join (i ∷ is) f (inr b) = broken_more f (inr (broken_join is f (inr b)))

  pub broken_split : (is : List Item) {front js : List Item} (f : Breach) → BLs front (is ++ js) f → BLs front is f
      ⊎ BLs (behind is front) js f
  broken_split [] f b = inr b
  broken_split (i ∷ is) f b = elim (broken_parts b) [
    | inl w ↦ inl (broken_more f (inl w))
    | inr d ↦ elim (broken_split is f d)
        [ inl y ↦ inl (broken_more f (inr y)) | inr y ↦ inr y ]
  ]
