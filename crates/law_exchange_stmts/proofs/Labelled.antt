-- Labels, one after another, with other numbers of modules.
use Rattle.std.proofs.Common.{◌≡◌, ℕ, Bool, true, false, cond, List, [], ◌∷◌, fold, Option, Some, None, option_map, refl, sym, ap, ap₂, subst, ◌∙◌}
use Rattle.std.specs.Prelude.{not, ◌&&◌, ◌==◌, Result, Ok, Err}
use Rattle.std.proofs.lemmas.Bool.Decides.{Decides-eqb}
use Rattle.m2_rule.specs.declared.rule.Rule.TheVariants as rule
use Rattle.m2_tree.specs.declared.pos.Pos.{Pos}
use Rattle.m2_tree.specs.declared.expr.Expr.{Expr}
use Rattle.m2_tree.specs.declared.expr.Item.{Item, out-Item}
use Rattle.typed_tree.specs.declared.types.Home.{Home}
use Rattle.typed_tree.specs.declared.types.Home.TheVariants.{Predeclared, Module}
use Rattle.typed_tree.specs.declared.types.TypeNo.{TypeNo}
use Rattle.typed_tree.specs.declared.statement.Label.{Label}
use Rattle.typed_tree.specs.Types.{are_same, is_one_home}
use Rattle.check_scope.specs.Elaborated.{Gathers, reported_where}
use Rattle.check_scope.specs.declared.scope.Scope.{Scope}
use Rattle.check_const.specs.declared.operand.Ordinal.{Ordinal}
use Rattle.check_expr.specs.Meanings.{Meant, meanings_of}
use Rattle.check_stmt_parts.specs.declared.ranges.Point.{Point}
use Rattle.check_stmt_parts.specs.Ranges.{Range, enter_range}
use Rattle.check_stmt_parts.specs.Lists.{with_next}
use Rattle.check_stmt_parts.specs.Simple.{meant_if}
use Rattle.check_stmt_parts.specs.Labels.{Bounds, Labels, base_of, module_of, point_of, enter_label, bound_in, bound_of, single, label_range, label_between, label_by, with_new, with_label, item_label, with_item, labels_in}
use Rattle.def_exchange.specs.Moved.{Exchange, moved_type, moved_types}
use Rattle.law_exchange_types.specs.Constants.{moved_ordinal}
use Rattle.law_exchange_types.specs.Pieces.{map_ok, moved_pair}
use Rattle.law_exchange_types.specs.Scopes.{moved_scope}
use Rattle.law_exchange_types.proofs.Basics.{same_moves}
use Rattle.law_exchange_exprs.proofs.Given.{expressions_given}
use Rattle.law_exchange_exprs.specs.Moving.{MeantMoves}
use Rattle.law_exchange_stmts.specs.MovedStatements.{moved_point}
use Rattle.law_exchange_stmts.proofs.Entering.{Alike, EnteredAlike, enter_range_alike}
use Rattle.law_exchange_stmts.proofs.Labels.{base_of_moves, module_of_moves, bound_in_moves, single_moves, label_range_moves}
use Rattle.law_exchange_stmts.proofs.Meant.{MovesIf}
use Rattle.law_exchange_stmts.proofs.Points.{Seat, seat}

-- ---- where labels stand

both_left : (a b : Bool) → (a && b) ≡ true → a ≡ true
both_left true b e = refl
both_left false b e = e

both_right : (a b : Bool) → (a && b) ≡ true → b ≡ true
both_right true b e = e
both_right false b e = absurd cc

one_module : (h k : Home) → is_one_home h k ≡ true → module_of h ≡ module_of k
one_module Predeclared Predeclared e = refl
one_module Predeclared (Module n) e = absurd cc
one_module (Module m) Predeclared e = absurd cc
one_module (Module m) (Module n) e = ap Some ((Decides-eqb m n).0 e)

abbrev seated : Option ℕ → ℕ → Seat
seated h n = (h, n)

one_seat : (t u : TypeNo) → are_same t u ≡ true → seated (module_of t.home) t.number
    ≡ seated (module_of u.home) u.number
one_seat t u e =
    ap₂ seated (one_module t.home u.home (both_left (is_one_home t.home u.home) (t.number == u.number) e))
    ((Decides-eqb t.number u.number).0 (both_right (is_one_home t.home u.home) (t.number == u.number) e))

module _ (z : Exchange) where
  abbrev moved_bounds : Ordinal × Ordinal → Ordinal × Ordinal
  moved_bounds b = moved_pair (moved_ordinal z) (moved_ordinal z) b

  abbrev pointed : Option ℕ → ℕ → Ordinal → Point
  pointed h n a = record { home = h; place = n; number = a.number }

  point_moves : (a : Ordinal) → point_of (moved_ordinal z a) ≡ moved_point z (point_of a)
  point_moves a =
      ap (λ (t : TypeNo). pointed (module_of t.home) t.number a) (base_of_moves z a.sort)
      ∙ ap (λ (h : Option ℕ). pointed h (base_of a.sort).number a) (module_of_moves z (base_of a.sort).home)

  abbrev entered_by : Bool → Point → Point → List Range → List Range × Bool
  entered_by b low high rs = cond b (enter_range low high rs) (rs, true)

  entered_alike : (t u : TypeNo) (b : Bool) → are_same t u ≡ b → (low high : Point)
      → seat low ≡ seated (module_of t.home) t.number → seat high ≡ seated (module_of u.home) u.number
      → (rs us : List Range) → Alike z rs us
      → EnteredAlike z (entered_by b low high rs) (entered_by b (moved_point z low) (moved_point z high) us)
  entered_alike t u true e low high l h rs us a = enter_range_alike z low high rs us (l ∙ (one_seat t u e ∙ sym h)) a
  entered_alike t u false e low high l h rs us a = (a, refl)

  entering : (b : Ordinal × Ordinal) (us : List Range)
      → enter_label (moved_bounds b) us
      ≡ entered_by (are_same (base_of b.0.sort) (base_of b.1.sort)) (moved_point z (point_of b.0))
      (moved_point z (point_of b.1)) us
  entering b us =
      ap (λ (c : Bool). entered_by c (point_of (moved_ordinal z b.0)) (point_of (moved_ordinal z b.1)) us)
      (ap₂ are_same (base_of_moves z b.0.sort) (base_of_moves z b.1.sort)
      ∙ same_moves z (base_of b.0.sort) (base_of b.1.sort))
      ∙ ap₂ (λ (p q : Point). entered_by (are_same (base_of b.0.sort) (base_of b.1.sort)) p q us)
      (point_moves b.0) (point_moves b.1)

  pub enter_label_alike : (b : Ordinal × Ordinal) (rs us : List Range) → Alike z rs us
      → EnteredAlike z (enter_label b rs) (enter_label (moved_bounds b) us)
  enter_label_alike b rs us a =
      subst (λ (t : List Range × Bool). EnteredAlike z (enter_label b rs) t) (sym (entering b us))
      (entered_alike (base_of b.0.sort) (base_of b.1.sort) (are_same (base_of b.0.sort) (base_of b.1.sort)) refl
      (point_of b.0) (point_of b.1) refl refl rs us a)

  -- ---- one after another

  -- the values of the labels so far meet the same, and the labels are the same
  abbrev pub LabelsAlike : {T : Type 0} → Labels T → Labels T → Type 0
  LabelsAlike st su = Alike z st.0 su.0 × (su.1 ≡ st.1)

  module _ (g : Gathers) where
    abbrev labelled : Pos → Result (List Label) g.Reported → Bool → Ordinal × Ordinal → Result (List Label) g.Reported
    labelled at so is b = with_next g so (reported_where g (not is) at rule.WrongLabel (Ok (label_by b)))

    with_new_alike : (at : Pos) (st su : Labels g.Reported) (b : Ordinal × Ordinal) → LabelsAlike st su
        → LabelsAlike (with_new g at st b) (with_new g at su (moved_bounds b))
    with_new_alike at st su b h =
        let e : EnteredAlike z (enter_label b st.0) (enter_label (moved_bounds b) su.0) =
        enter_label_alike b st.0 su.0 h.0 in
        (e.0, ap₂ (λ (so : Result (List Label) g.Reported) (is : Bool). labelled at so is b) h.1 e.1)

    with_label_alike : (at : Pos) (st su : Labels g.Reported) (r : Result Bounds g.Reported) → LabelsAlike st su
        → LabelsAlike (with_label g at st r) (with_label g at su (map_ok (option_map moved_bounds) r))
    with_label_alike at st su (Ok (Some b)) h = with_new_alike at st su b h
    with_label_alike at st su (Ok None) h = h
    with_label_alike at st su (Err e) h =
        (h.0, ap (λ (so : Result (List Label) g.Reported). with_next g so (Err e)) h.1)

    pub meant_if_moves : (e : Option Expr) → MovesIf z (meant_if g e)
    meant_if_moves None = tt
    meant_if_moves (Some e) = expressions_given g z e

    module _ (s : Scope g.Reported) (base : Option TypeNo) where
      bound_of_moves : (label : Pos) (m : Meant g.Reported) → MeantMoves z m
          → bound_of g (moved_scope z s) (option_map (moved_type z) base) label m
          ≡ map_ok (option_map (moved_ordinal z)) (bound_of g s base label m)
      bound_of_moves label m h =
          ap (bound_in g (moved_types z s.types) (option_map (moved_type z) base) label m.fixed.at) (h.means s)
          ∙ bound_in_moves z g s.types base label m.fixed.at (m.means s)

      pub label_between_moves : (low : Meant g.Reported) (high : Option (Meant g.Reported)) → MeantMoves z low
          → MovesIf z high
          → label_between g (moved_scope z s) (option_map (moved_type z) base) low high
          ≡ map_ok (option_map moved_bounds) (label_between g s base low high)
      label_between_moves low None h k =
          ap (single g (option_map (moved_type z) base) low.fixed.at) (bound_of_moves low.fixed.at low h)
          ∙ single_moves z g base low.fixed.at (bound_of g s base low.fixed.at low)
      label_between_moves low (Some high) h k =
          ap₂ (λ a b. label_range g (option_map (moved_type z) base) low.fixed.at a high.fixed.at b)
          (bound_of_moves low.fixed.at low h) (bound_of_moves low.fixed.at high k)
          ∙ label_range_moves z g base low.fixed.at (bound_of g s base low.fixed.at low) high.fixed.at
          (bound_of g s base low.fixed.at high)

      pub item_label_moves : (i : Item)
          → item_label g (moved_scope z s) (option_map (moved_type z) base) i
          ≡ map_ok (option_map moved_bounds) (item_label g s base i)
      item_label_moves i =
          label_between_moves (meanings_of g (out-Item i).low) (meant_if g (out-Item i).high)
          (expressions_given g z (out-Item i).low) (meant_if_moves (out-Item i).high)

      with_item_alike : (st su : Labels g.Reported) (i : Item) → LabelsAlike st su
          → LabelsAlike (with_item g s base st i)
          (with_item g (moved_scope z s) (option_map (moved_type z) base) su i)
      with_item_alike st su i h =
          let at = (meanings_of g (out-Item i).low).fixed.at in
          subst (λ (r : Result Bounds g.Reported). LabelsAlike (with_item g s base st i) (with_label g at su r))
          (sym (item_label_moves i)) (with_label_alike at st su (item_label g s base i) h)

      pub items_alike : (items : List Item) (st su : Labels g.Reported) → LabelsAlike st su
          → LabelsAlike (fold (with_item g s base) st items)
          (fold (with_item g (moved_scope z s) (option_map (moved_type z) base)) su items)
      items_alike [] st su h = h
      items_alike (i ∷ is) st su h =
          items_alike is (with_item g s base st i)
          (with_item g (moved_scope z s) (option_map (moved_type z) base) su i) (with_item_alike st su i h)

      pub labels_in_alike : (rs us : List Range) (items : List Item) → Alike z rs us
          → LabelsAlike (labels_in g s base rs items)
          (labels_in g (moved_scope z s) (option_map (moved_type z) base) us items)
      labels_in_alike rs us items a = items_alike items (rs, Ok []) (us, Ok []) (a, refl)
