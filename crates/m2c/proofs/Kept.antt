-- The sizes of the types that an accepted module knows are kept uncut.
use Rattle.std.proofs.Common.{◌≡◌, ℕ, zero, suc, ◌<◌, Bool, true, List, [], ◌∷◌, ◌++◌, length, Some, refl, sym, ap, subst, ◌∙◌, arith}
use Rattle.std.specs.Prelude.{slice_get}
use Rattle.std.specs.List.{fold}
use Rattle.std.specs.Option.{is_some}
use Rattle.std.proofs.lemmas.Bool.{lt-ltb}
use Rattle.typed_tree.specs.declared.types.TypeNo.{TypeNo}
use Rattle.typed_tree.specs.declared.shape.Shape.{Shape}
use Rattle.typed_tree.specs.declared.shape.Shape.TheVariants as shape
use Rattle.typed_tree.specs.declared.shape.Made.{Made}
use Rattle.typed_tree.specs.declared.known_types.Types.{Types}
use Rattle.typed_tree.specs.Known.{made_at}
use Rattle.layout_storage.specs.Types.{Ty}
use Rattle.layout_storage.specs.Sizes.{size}
use Rattle.layout_storage.specs.Shapes.{shape_tree, known_trees, tree}
use Rattle.layout_storage.specs.Extents.{element_tree}
use Rattle.layout_storage.specs.Fitting.{made_type}
use Rattle.law_modules.specs.Ranges.{AreRanged}
use Rattle.law_well_formed.specs.Ordered.{named_by, is_known, AreKnown, OthersOrdered, AreOrdered}
use Rattle.law_well_formed.proofs.Trees.{at, at_placed, append_more, some_of}
use Rattle.law_well_formed.proofs.Folds.{and_both}
use Rattle.law_well_formed.proofs.Shaped.{tree_shaped, named_known}
use Rattle.law_well_formed.proofs.Sizes.{own_small, has_others, has_own, there}
use Rattle.emit_buffer.specs.Fitting.{size_fits, first_fit, module_fits, sizes_fit}

module _ (types : Types) (o : AreOrdered types) (ranged : AreRanged types) where
  few : (u : TypeNo) → is_known types u ≡ true → size (tree types u) < 4294967295
  few u k = let s = own_small types o ranged u k in omega (arith, s.0, s.1)

  elements_few : (t : TypeNo) (s : Shape) → AreKnown types (named_by s)
      → size (element_tree (shape_tree types (known_trees types) t s)) < 4294967295
  unfolding size
  elements_few t (shape.Scalar s) h = omega arith
  elements_few t shape.Set h = omega arith
  elements_few t (shape.Array i e) h = few e h.1.0
  elements_few t (shape.Record []) h = omega arith
  elements_few t (shape.Record (f ∷ fs)) h = omega arith
  elements_few t (shape.Procedure p) h = omega arith
  elements_few t (shape.Open e) h = omega arith

  one_fits : (t : TypeNo) (m : Made) → made_at types t ≡ Some m → is_known types t ≡ true
      → size_fits (tree types t) ≡ true
  one_fits t m e k =
      let elements : size (element_tree (tree types t)) < 4294967295 =
      subst (λ (y : Ty). size (element_tree y) < 4294967295) (sym (tree_shaped types o t m e))
      (elements_few t m.shape (named_known types o t m e)) in
      and_both _ _ (lt-ltb _ _ (few t k)) (lt-ltb _ _ elements)

  first_ones : (home count : ℕ) → ((n : ℕ) → n < count → size_fits (tree types (made_type home n)) ≡ true)
      → first_fit types home count ≡ true
  first_ones home zero h = refl
  first_ones home (suc n) h = and_both (first_fit types home n) (size_fits (tree types (made_type home n)))
      (first_ones home n (λ j l. h j (omega (arith, l)))) (h n (omega arith))

  others_fit : (rest before : List (ℕ × List Made)) → before ++ rest ≡ types.others → OthersOrdered before rest
      → fold (module_fits types) true rest ≡ true
  others_fit [] before e h = refl
  others_fit (x ∷ rest) before e h =
      let found : at x.0 types.others ≡ Some x.1 = ap (λ (es : List (ℕ × List Made)). at x.0 es) (sym e)
      ∙ at_placed x.0 before x.1 rest h.0 in
      let fit : first_fit types x.0 (length x.1) ≡ true = first_ones x.0 (length x.1) (λ n l.
      let y = some_of (slice_get x.1 n) (there types o ranged x.1 n l) in
      let made = has_others types o ranged x.0 x.1 found n y.0 y.1 in
      one_fits (made_type x.0 n) y.0 made (ap is_some made)) in
      ap (λ (b : Bool). fold (module_fits types) b rest) fit
      ∙ others_fit rest (before ++ x ∷ []) (append_more before x rest ∙ e) h.1.1

  pub sizes_kept : sizes_fit types ≡ true
  unfolding sizes_fit
  sizes_kept =
      and_both (fold (module_fits types) true types.others) (first_fit types types.home (length types.own))
      (others_fit types.others [] refl o.others)
      (first_ones types.home (length types.own) (λ n l.
      let y = some_of (slice_get types.own n) (there types o ranged types.own n l) in
      let made = has_own types o ranged n y.0 y.1 in
      one_fits (made_type types.home n) y.0 made (ap is_some made)))
