-- What is carried along a walk, and headings that agree with what is computed where their procedures' blocks begin.
use Rattle.std.proofs.Common.{◌≡◌, ℕ, ◌+◌, List, [], ◌∷◌, ◌++◌, length, Option, Some, None, Result, Ok, refl, sym, ap, subst, ◌∙◌, append_assoc, arith}
use Rattle.std.specs.Prelude.{slice_get}
use Rattle.std.specs.List.{fold}
use Rattle.std.specs.Option.{unwrap_or, option_map}
use Rattle.std.proofs.lemmas.List.{append-nil, length-append}
use Rattle.std.proofs.lemmas.Option.{same_Some}
use Rattle.m2_tree.specs.declared.decl.Heading.{Heading}
use Rattle.m2_tree.specs.declared.decl.Decl.{Decl, Decl-F, out-Decl}
use Rattle.m2_tree.specs.declared.decl.Decl.TheOpen as layer
use Rattle.m2_tree.specs.declared.decl.Block.{Block}
use Rattle.typed_tree.specs.declared.known_types.Types.{Types}
use Rattle.typed_tree.specs.declared.meaning.Meaning.{Meaning}
use Rattle.typed_tree.specs.declared.meaning.Meaning.TheVariants as meaning
use Rattle.typed_tree.specs.declared.shape.Made.{Made}
use Rattle.typed_tree.specs.declared.shape.Shape.{Shape}
use Rattle.typed_tree.specs.declared.types.TypeNo.{TypeNo}
use Rattle.typed_tree.specs.Known.{made_at}
use Rattle.layout_storage.specs.Shapes.{tree}
use Rattle.check_scope.specs.Elaborated.{Gathers}
use Rattle.check_scope.specs.declared.known.Known.{Known}
use Rattle.check_scope.specs.declared.scope.Scope.{Scope}
use Rattle.layout_storage.specs.Frames.{formals_in, formals_made}
use Rattle.law_simulation.specs.Passing.{Result as Gives, result_in, result_made}
use Rattle.check_type_expr.specs.Headings.{result_of}
use Rattle.check_scope.specs.Inwards.{inwards}
use Rattle.check_block.specs.Naming.{marked_decl, with_marks}
use Rattle.check_block.specs.Declarations.{Course, Declared, with_decl, again_decl, declared_block}
use Rattle.check_body.specs.declared.routine.Numbered.{Numbered}
use Rattle.check_body.specs.Routines.{numbered_by, numbered_known}
use Rattle.check_body.specs.Inside.{returns_of}
use Rattle.law_folds.proofs.AgainSteps.{decls_report}
use Rattle.law_well_formed.proofs.ScopesDeclarations.{decl_reported}
use Rattle.law_well_formed.specs.FormedHeadings.{heading_in, HeadingStands}
use Rattle.law_well_formed.proofs.Headings.{headings_stay}
use Rattle.law_programs.proofs.Bounding.{left_words, entered_words}
use Rattle.law_programs.proofs.Declaring.{block_carries}
use Rattle.law_programs.specs.TypingStmts.{AreReturned}
use Rattle.law_programs.specs.Words.{WordsStay}
use Rattle.law_programs.specs.TypingBodies.{HeadingAgrees, DeclAgrees, DeclsAgree, HeadingsAgree}

heading_same : (m : Meaning) (q : Numbered) (t : TypeNo) → numbered_by m ≡ Some q → heading_in m ≡ Some t
    → q.heading ≡ t
heading_same (meaning.Procedure p) q t e k = sym (ap (λ (n : Numbered). n.heading) (same_Some _ q e))
    ∙ same_Some p.heading t k
heading_same (meaning.LocalProcedure p) q t e k = sym (ap (λ (n : Numbered). n.heading) (same_Some _ q e))
    ∙ same_Some p.heading t k
heading_same (meaning.Constant v) q t e k = absurd cc
heading_same (meaning.Type u n) q t e k = absurd cc
heading_same (meaning.Variable v) q t e k = absurd cc
heading_same (meaning.Local v) q t e k = absurd cc
heading_same (meaning.Field f) q t e k = absurd cc
heading_same meaning.Ahead q t e k = absurd cc
heading_same (meaning.Standard f) q t e k = absurd cc
heading_same (meaning.Module n) q t e k = absurd cc

pub words_stay : (g : Gathers) → WordsStay g
words_stay g = record {
  blocks = λ ends st first ds k. (block_carries g ends st first ds).words k;
  entered = λ s seen h k. entered_words g s seen h k;
  left = λ o s k. left_words o s k;
}

module _ (g : Gathers) where
  returned_by : (types : Types) (o : Option TypeNo)
      → AreReturned {T = g.Reported} types (returns_of (Ok o)) (option_map (tree types) o)
  returned_by types None = refl
  returned_by types (Some t) = refl

  stands_agrees : (s : Scope g.Reported) (n : ℕ) (h : Heading) → HeadingStands g s n h → HeadingAgrees g s n h
  stands_agrees s n h k q named types grows =
      let is : q.heading ≡ k.heading = heading_same k.means q k.heading
      (sym (ap (λ (o : Option (Known g.Reported)). numbered_known o) k.named) ∙ named) k.is in
      let made : made_at types q.heading ≡ Some k.made = ap (λ (t : TypeNo). made_at types t) is
      ∙ grows k.heading k.made k.there in (
        ap (λ (o : Option Made). formals_made o) made ∙ ap (λ (x : Shape). formals_in x) k.shape,
        subst (λ (r : Gives). AreReturned types (returns_of (result_of g (inwards s n) h.result)) r)
            (sym (ap (λ (o : Option Made). result_made types o) made ∙ ap (λ (x : Shape). result_in types x) k.shape))
            (subst (λ (r : Result (Option TypeNo) g.Reported). AreReturned types (returns_of r)
            (option_map (tree types) k.result)) (sym k.gives) (returned_by types k.result)),
      )

  -- ---- how many names stand before each declaration

  abbrev marked : Scope g.Reported → List Decl → Scope g.Reported
  marked s ds = fold marked_decl s ds

  abbrev counts : Scope g.Reported → List Decl → List ℕ
  counts s [] = []
  counts s (d ∷ ds) = length s.own ∷ counts (marked_decl s d) ds

  marks_are : (ds : List Decl) (s : Scope g.Reported) (l : List ℕ)
      → ◌≡◌ {A = Scope g.Reported × List ℕ} (fold (with_marks marked_decl) (s, l) ds) (marked s ds, l ++ counts s ds)
  marks_are [] s l = ap (λ (k : List ℕ). (s, k)) (sym (append-nil l))
  marks_are (d ∷ ds) s l = marks_are ds (marked_decl s d) (l ++ length s.own ∷ [])
      ∙ ap (λ (k : List ℕ). (marked s (d ∷ ds), k)) (append_assoc l (length s.own ∷ []) (counts (marked_decl s d) ds))

  count_at : (before : List Decl) (s : Scope g.Reported) (d : Decl) (rest : List Decl)
      → slice_get (counts s (before ++ d ∷ rest)) (length before) ≡ Some (length (marked s before).own)
  count_at [] s d rest = refl
  count_at (x ∷ before) s d rest = count_at before (marked_decl s x) d rest

  pub all_reported : (ends : List ℕ) (ds : List Decl) (c : Course g.Reported) → (fold (with_decl g ends) c ds).1 ≡ Ok tt
      → c.1 ≡ Ok tt
  all_reported ends [] c e = e
  all_reported ends (d ∷ ds) c e = decl_reported g {A = Decl} {B = Block} ends c (out-Decl d)
      (all_reported ends ds (with_decl g ends c d) e)

  module _ (ends : List ℕ) (a : Scope g.Reported) (first : ℕ) (withs : a.withs ≡ []) where
    abbrev declared : List Decl → Course g.Reported
    declared ds = fold (with_decl g ends) (marked a ds, Ok tt, first) ds

    one_by : (before : List Decl) (d : Decl) (rest : List Decl) → (declared (before ++ d ∷ rest)).1 ≡ Ok tt
        → (x : Decl-F Decl Block) → out-Decl d ≡ x
        → DeclAgrees g {A = Decl} {B = Block} (declared (before ++ d ∷ rest)).0 (length (marked a before).own) x
    one_by before d rest ok (layer.Constants cs) e = tt
    one_by before d rest ok (layer.Types ts) e = tt
    one_by before d rest ok (layer.Variables vs) e = tt
    one_by before d rest ok (layer.Procedure h b) e = λ s kept own none.
        stands_agrees s (length (marked a before).own) h
        (headings_stay g ends a first before d rest withs ok s
        (record { own = own; outer = kept.outer; tables = kept.tables; withs = none }) kept.types h b e)

    one_at : (before : List Decl) (d : Decl) (rest : List Decl) → (declared (before ++ d ∷ rest)).1 ≡ Ok tt
        → DeclAgrees g {A = Decl} {B = Block} (declared (before ++ d ∷ rest)).0
        (unwrap_or (slice_get (counts a (before ++ d ∷ rest)) (length before)) 0) (out-Decl d)
    one_at before d rest ok =
        subst (λ (o : Option ℕ). DeclAgrees g {A = Decl} {B = Block} (declared (before ++ d ∷ rest)).0 (unwrap_or o 0)
        (out-Decl d)) (sym (count_at before a d rest)) (one_by before d rest ok (out-Decl d) refl)

    all_from : (ds : List Decl) → (declared ds).1 ≡ Ok tt → (before rest : List Decl) → ds ≡ before ++ rest → (i : ℕ)
        → i ≡ length before → DeclsAgree g (declared ds).0 (counts a ds) i rest
    all_from ds ok before [] e i n = tt
    all_from ds ok before (d ∷ rest) e i n = (
      subst (λ (k : ℕ). DeclAgrees g {A = Decl} {B = Block} (declared ds).0 (unwrap_or (slice_get (counts a ds) k) 0)
          (out-Decl d)) (sym n)
          (subst (λ (ys : List Decl). (declared ys).1 ≡ Ok tt
          → DeclAgrees g {A = Decl} {B = Block} (declared ys).0
          (unwrap_or (slice_get (counts a ys) (length before)) 0) (out-Decl d)) (sym e) (one_at before d rest) ok),
      all_from ds ok (before ++ d ∷ []) rest (e ∙ sym (append_assoc before (d ∷ []) rest)) (i + 1)
          (let c : length (before ++ d ∷ []) ≡ length before + 1 = length-append before (d ∷ []) in
          omega (arith, c, n)),
    )

  pub headings_agree : HeadingsAgree g
  headings_agree ends st first ds fresh ok =
      let behind : Scope g.Reported × List ℕ → Declared g.Reported =
      λ m. (
      let c : Course g.Reported = fold (with_decl g ends) (m.0, st.1, first) ds in
      (c.0, (fold (again_decl g c.0) (c.1, length st.0.own) ds).0, m.1)
      ) in
      let c : Course g.Reported = fold (with_decl g ends) (marked st.0 ds, st.1, first) ds in
      let back : (behind (marked st.0 ds, counts st.0 ds)).1 ≡ Ok tt → c.1 ≡ Ok tt =
      decls_report g c.0 ds (c.1, length st.0.own) in
      let is : declared_block g ends st first ds ≡ behind (marked st.0 ds, counts st.0 ds) =
      ap behind (marks_are ds st.0 []) in
      subst (λ (d : Declared g.Reported). d.1 ≡ Ok tt → DeclsAgree g d.0 d.2 0 ds) (sym is) (λ k.
      (subst (λ (r : Result (Unit {0}) g.Reported). (fold (with_decl g ends) (marked st.0 ds, r, first) ds).1 ≡ Ok tt
      → DeclsAgree g (fold (with_decl g ends) (marked st.0 ds, r, first) ds).0 (counts st.0 ds) 0 ds)
      (sym (all_reported ends ds (marked st.0 ds, st.1, first) (back k)))
      (λ q. all_from ends st.0 first fresh.withs ds q [] ds refl 0 refl)) (back k)) ok
