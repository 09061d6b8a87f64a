-- Labels of a CASE, as they stand in a typed tree.
use Rattle.std.proofs.Common.{◌≡◌, ℕ, ℤ, Bool, true, false, not, List, [], ◌∷◌, ◌++◌, Option, Some, None, Result, Ok, Err, refl, sym, ap, subst, ◌∙◌, append-nil, append_assoc}
use Rattle.std.specs.List.{fold}
use Rattle.m2_rule.specs.declared.rule.Rule.TheVariants as rule
use Rattle.m2_tree.specs.declared.pos.Pos.{Pos}
use Rattle.m2_tree.specs.declared.name.Ident.{Ident}
use Rattle.m2_tree.specs.declared.expr.Expr.{Expr}
use Rattle.m2_tree.specs.declared.expr.Item.{Item}
use Rattle.typed_tree.specs.declared.types.TypeNo.{TypeNo}
use Rattle.typed_tree.specs.declared.statement.Label.{Label}
use Rattle.check_scope.specs.declared.scope.Scope.{Scope}
use Rattle.check_scope.specs.Elaborated.{Gathers, reported_where}
use Rattle.check_const.specs.declared.operand.Ordinal.{Ordinal}
use Rattle.check_stmt_parts.specs.Ranges.{Range}
use Rattle.check_stmt_parts.specs.Lists.{with_next}
use Rattle.check_stmt_parts.specs.Labels.{Bounds, label_by, enter_label, with_label, item_label, with_item, labels_in}
use Rattle.def_typing.specs.Things.{Standing}
use Rattle.def_typing.specs.Cases as labels
use Rattle.def_typing.specs.Cases.{Number, is_bound, no_number, IsLabelBound, is_label_bound, Values, from_to, IsLabel}
use Rattle.law_typing.specs.Judging.{Judges}
use Rattle.law_typing.specs.Exact.{Knows}
use Rattle.law_typing.proofs.Combining.{Lawful}
use Rattle.law_typing.proofs.Labelling.{spanned, IsSpan, is_span, no_span, label_answers}
use Rattle.def_typed.specs.Statements as rules
use Rattle.def_typed.specs.Statements.{Site, AreLabels}
use Rattle.law_typed.specs.Typed.{IsOne}
use Rattle.law_typed.proofs.Meant.{IfMeant, meant, not_meant, if_as, of_answers}

same_label : (l : Label) (n m : ℤ) → n ≡ l.low → m ≡ l.high → ◌≡◌ {A = Label} (record { low = n; high = m }) l
same_label l n m p q = ap (λ (x : ℤ). let k : Label = record { low = x; high = m } in k) p
    ∙ ap (λ (x : ℤ). let k : Label = record { low = l.low; high = x } in k) q

module _ (g : Gathers) (j : Judges g) (lawful : Lawful g j) (exports : ℕ → Ident → Standing) (w : Site)
    (s : Scope g.Reported) (knows : Knows g j w.spot.names exports s) (base : TypeNo) where
  abbrev L : Item → Values → Type 0
  L = IsLabel s.types w.spot.names exports (Some base)

  abbrev Ls : List Item → List Label → Type 0
  Ls = AreLabels s.types exports w base

  abbrev LabelIs : Item → Bounds → Type 0
  LabelIs i b = (x : Values) × IsSpan b x × L i x × ((y : Values) → L i y → y ≡ x)

  abbrev ValuesAre : Item → Ordinal × Ordinal → Type 0
  ValuesAre i b = L i (Some (spanned b)) × ((y : Values) → L i y → y ≡ Some (spanned b))

  values_are : {i : Item} {b : Ordinal × Ordinal} → LabelIs i (Some b) → ValuesAre i b
  values_are (_, is_span b, h, one) = (h, one)

  -- If the selector has a meaning, each label has values.
  asked : {e : Expr} {p : Option Number} → IsLabelBound s.types w.spot.names exports (Some base) e p → (q : Number)
      × (p ≡ Some q)
  asked (is_label_bound m (is_bound {sort = sort} {n = n} e)) = ((sort, n), refl)
  asked (is_label_bound m (no_number e c n)) = absurd cc

  valued : {i : Item} {x : Values} → L i x → (b : Number × Number) × (x ≡ Some b)
  valued (labels.single {p = p} e l f) = let q = asked l in ((q.0, q.0), ap (λ (o : Option Number). from_to o o) q.1)
  valued (labels.range {p = p} {q = q} e l h f k o) = let m = asked l in let n = asked h in
      ((m.0, n.0), ap (λ (o : Option Number). from_to o q) m.1 ∙ ap (λ (o : Option Number). from_to (Some m.0) o) n.1)

  never_none : {i : Item} → LabelIs i None → ⊥
  never_none (_, no_span, h, one) = let clash = (valued h).1 in cc clash

  abbrev values_or : Number × Number → Values → Number × Number
  values_or x (Some y) = y
  values_or x None = x

  label_so : (i : Item) → IfMeant (LabelIs i) (item_label g s (Some base) i)
  label_so i = if_as (λ b q. by b q.kind q.is q.has q.one)
      (of_answers g j (label_answers g j lawful w.spot.names exports s knows (Some base) i))
    where
      by : (b : Bounds) (x : Values) → IsSpan b x → L i x → ((y : Values) → L i y → y ≡ x) → LabelIs i b
      by b x k h one = (x, k, h, one)

  broken_labels : {Q : List Label → Type 0} (is : List Item) (rs : List Range) (r : g.Reported)
      → IfMeant Q (fold (with_item g s (Some base)) (rs, Err r) is).1
  broken_labels [] rs r = not_meant r
  broken_labels (i ∷ is) rs r = by_label _ (item_label g s (Some base) i) (λ qs q. broken_labels is qs q)
    where
      by_label : {Q : List Label → Type 0} (at : Pos) (x : Result Bounds g.Reported)
          → ((qs : List Range) (q : g.Reported) → IfMeant Q (fold (with_item g s (Some base)) (qs, Err q) is).1)
          → IfMeant Q (fold (with_item g s (Some base)) (with_label g at (rs, Err r) x) is).1
      by_label at (Ok None) h = h rs r
      by_label {Q = Q} at (Ok (Some b)) h = by_test (enter_label b rs).1
        where
          by_test : (e : Bool) → IfMeant Q (fold (with_item g s (Some base)) (
            (enter_label b rs).0,
            with_next g (Err r)
                (reported_where g (not e) at rule.WrongLabel (Ok (label_by b))),
          ) is).1
          by_test true = h _ r
          by_test false = h _ _
      by_label at (Err q) h = h rs (g.join r q)

  abbrev Labelled : List Label → List Item → List Label → Type 0
  Labelled so is ls = (ys : List Label) × (ls ≡ so ++ ys) × IsOne (Ls is) ys

  labels_from : (is : List Item) (rs : List Range) (so : List Label)
      → IfMeant (Labelled so is) (fold (with_item g s (Some base)) (rs, Ok so) is).1
  labels_from [] rs so = meant so (
    [],
    sym (append-nil so),
    record { holds = rules.no_label; alone = λ ys r. alone ys r },
  )
    where
      alone : (ys : List Label) → Ls [] ys → ys ≡ []
      alone _ rules.no_label = refl
  labels_from (i ∷ is) rs so = by_label _ (λ qs to. labels_from is qs to) (label_so i)
    where
      joined : {b : Ordinal × Ordinal} {ls : List Label} → ValuesAre i b → Labelled (so ++ label_by b ∷ []) is ls
          → Labelled so (i ∷ is) ls
      joined {b = b} {ls = ls} o r = (
        label_by b ∷ r.0,
        r.1
            ∙ append_assoc so (label_by b ∷ []) r.0,
        record { holds = rules.one_label o.0 r.2.holds; alone = λ ys a. alone ys a },
      )
        where
          alone : (ys : List Label) → Ls (i ∷ is) ys → ys ≡ label_by b ∷ r.0
          alone _ (rules.one_label {s = s'} {t = t} {n = n} {m = m} {ls = zs} p a) =
              let z = o.1 (Some ((s', n), (t, m))) p in
              let h = same_label (label_by b) n m (ap (λ (x : Values). (values_or (spanned b) x).0.1) z)
              (ap (λ (x : Values). (values_or (spanned b) x).1.1) z) in
              cc (h, r.2.alone zs a)

      by_label : (at : Pos) {x : Result Bounds g.Reported}
          → ((qs : List Range) (to : List Label)
          → IfMeant (Labelled to is) (fold (with_item g s (Some base)) (qs, Ok to) is).1) → IfMeant (LabelIs i) x
          → IfMeant (Labelled so (i ∷ is)) (fold (with_item g s (Some base)) (with_label g at (rs, Ok so) x) is).1
      by_label at r (meant None o) = absurd (never_none o)
      by_label at r (meant (Some b) o) = by_test (enter_label b rs).1
        where
          by_test : (e : Bool) → IfMeant (Labelled so (i ∷ is))
              (fold (with_item g s (Some base)) (
                (enter_label b rs).0,
                with_next g (Ok so)
                    (reported_where g (not e) at rule.WrongLabel (Ok (label_by b))),
              ) is).1
          by_test true = if_as (λ ls a. joined (values_are o) a) (r _ (so ++ label_by b ∷ []))
          by_test false = broken_labels is _ _
      by_label at r (not_meant k) = broken_labels is rs k

  pub labels_so : (is : List Item) (rs : List Range) → IfMeant (IsOne (Ls is)) (labels_in g s (Some base) rs is).1
  labels_so is rs = if_as (λ ls r. subst (IsOne (Ls is)) (sym r.1) r.2) (labels_from is rs [])
