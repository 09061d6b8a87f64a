-- A procedure's type has at most as many formals as its heading has names, in each block that breaks no rule.
use Rattle.std.proofs.Common.{◌≡◌, ℕ, suc, ◌+◌, ◌≤◌, true, List, [], ◌∷◌, ◌++◌, length, Option, Some, Result, Ok, Err, refl, sym, ap, subst, ◌∙◌, append_assoc, length-append, arith}
use Rattle.std.specs.List.{fold, AllByRecursion}
use Rattle.m2_tree.specs.declared.name.Ident.{Ident}
use Rattle.m2_tree.specs.declared.decl.Block.{Block}
use Rattle.m2_tree.specs.declared.decl.Decl.{Decl, Decl-F, out-Decl}
use Rattle.m2_tree.specs.declared.decl.Decl.TheOpen as layer
use Rattle.m2_tree.specs.declared.decl.Heading.{Heading}
use Rattle.m2_tree.specs.declared.decl.Section.{Section}
use Rattle.typed_tree.specs.declared.known_types.Types.{Types}
use Rattle.typed_tree.specs.declared.shape.Formal.{Formal}
use Rattle.typed_tree.specs.declared.shape.Made.{Made}
use Rattle.typed_tree.specs.declared.shape.Shape.{Shape}
use Rattle.typed_tree.specs.declared.types.TypeNo.{TypeNo}
use Rattle.typed_tree.specs.Known.{made_at}
use Rattle.typed_tree.specs.Names.{find_name}
use Rattle.check_scope.specs.Elaborated.{Gathers}
use Rattle.check_scope.specs.declared.known.Known.{Known}
use Rattle.check_scope.specs.declared.known.Known.TheVariants.{Headed}
use Rattle.check_scope.specs.declared.scope.Scope.{Scope}
use Rattle.layout_storage.specs.Frames.{formals_in, formals_made, formals_of}
use Rattle.check_type_expr.specs.Headings.{formal_of}
use Rattle.check_scope.specs.Inwards.{inwards}
use Rattle.check_block.specs.Naming.{marked_decl, with_marks}
use Rattle.check_block.specs.Declarations.{Course, with_decl}
use Rattle.law_well_formed.specs.FormedNumbers.{with_one, with_names, with_formals_of, all_formals}
use Rattle.law_well_formed.specs.FormedHeadings.{heading_in, HeadingStands}
use Rattle.law_well_formed.proofs.Headings.{headings_stay}
use Rattle.law_well_formed.proofs.HeadingsSteps.{is_settled}
use Rattle.law_well_formed.proofs.Resolving.{block_marked, block_changes}
use Rattle.law_well_formed.proofs.ScopesDeclarations.{decl_reported}
use Rattle.law_encoding.specs.Sizes.{sum_of}
use Rattle.law_encoding.proofs.Awaited.{Names, HeadFits}
use Rattle.law_encoding.proofs.AwaitedDeclarations.{DeclFits, AllFit}

-- ---- formals

abbrev pub names_in : Heading → ℕ
names_in h = sum_of (λ (x : Section). length x.names) h.formals

-- a heading counts one, and one for each name of a formal
abbrev pub heading_names : Heading → ℕ
heading_names h = 1 + names_in h

one_sum : (a b : ℕ) → b ≡ a + 1 → b ≤ a + 1
one_sum a b e = omega (arith, e)

no_sum : (a : ℕ) → a ≤ a + 1
no_sum a = omega arith

more_names : (a b c n : ℕ) → a ≤ b + n → b ≤ c + 1 → a ≤ c + suc n
more_names a b c n h i = omega (arith, h, i)

more_sections : (a b c n k : ℕ) → a ≤ b + n → b ≤ c + k → a ≤ c + (k + n)
more_sections a b c n k h i = omega (arith, h, i)

same_sum : (a : ℕ) → a ≤ a + 0
same_sum a = omega arith

module _ {T : Type 0} where
  one_few : (fs : List Formal) (r : Result Formal T) → length (with_one fs r) ≤ length fs + 1
  one_few fs (Ok f) = one_sum (length fs) _ (length-append fs (f ∷ []))
  one_few fs (Err e) = no_sum (length fs)

  names_few : (r : Result Formal T) (xs : List Ident) (fs : List Formal)
      → length (with_names r fs xs) ≤ length fs + length xs
  names_few r [] fs = same_sum (length fs)
  names_few r (x ∷ xs) fs = more_names (length (with_names r (with_one fs r) xs)) (length (with_one fs r)) (length fs)
      (length xs) (names_few r xs (with_one fs r)) (one_few fs r)

module _ (g : Gathers) where
  sections_few : (s : Scope g.Reported) (xs : List Section) (fs : List Formal)
      → length (fold (with_formals_of g s) fs xs) ≤ length fs + sum_of (λ (x : Section). length x.names) xs
  sections_few s [] fs = same_sum (length fs)
  sections_few s (x ∷ xs) fs =
      more_sections _ (length (with_formals_of g s fs x)) (length fs) _ (length x.names)
      (sections_few s xs (with_formals_of g s fs x)) (names_few (formal_of g s x.is_var x.of) x.names fs)

  formals_few : (s : Scope g.Reported) (xs : List Section)
      → length (all_formals g s xs) ≤ 0 + sum_of (λ (x : Section). length x.names) xs
  formals_few s xs = sections_few s xs []

-- ---- the types that the module has in the end

module _ (types : Types) where
  -- a procedure's type counts one, and one for each formal
  abbrev pub type_weight : TypeNo → ℕ
  type_weight t = 1 + length (formals_of types t)

  abbrev pub Within : {T : Type 0} → Scope T → Type 0
  Within s = (t : TypeNo) (x : Made) → made_at s.types t ≡ Some x → made_at types t ≡ Some x

  module _ (g : Gathers) where
    -- the headings of a block fit their names
    abbrev pub HeadingFits : {A B : Type 0} → Names g.Reported → Decl-F A B → Type 0
    HeadingFits es y = DeclFits type_weight g heading_names es y

    abbrev pub HeadingsFit : Names g.Reported → List Decl → Type 0
    HeadingsFit es ds = AllByRecursion (λ d. HeadingFits es (out-Decl d)) ds

    weight_sum : (w f n : ℕ) → w ≡ f → f ≤ 0 + n → 1 + w ≤ 1 + n
    weight_sum w f n e h = omega (arith, e, h)

    stands_fit : (w : Scope g.Reported) (n : ℕ) (h : Heading) → HeadingStands g w n h → Within w
        → HeadFits type_weight (heading_names h) w.own h.name.name
    stands_fit w n h k within m t named is =
        let same : k.means ≡ m = let e : ◌≡◌ {A = Option (Known g.Reported)} (Some (Headed (Ok k.means)))
        (Some (Headed (Ok m))) = sym k.named ∙ named in cc in
        let heading : t ≡ k.heading = let e : ◌≡◌ {A = Option TypeNo} (Some t) (Some k.heading) = sym is
        ∙ ap heading_in (sym same) ∙ k.is in cc in
        let made : made_at types t ≡ Some k.made = ap (λ (u : TypeNo). made_at types u) heading
        ∙ within k.heading k.made k.there in
        let formals = ap (λ (o : Option Made). formals_made o) made ∙ ap (λ (x : Shape). formals_in x) k.shape in
        weight_sum (length (formals_of types t)) _ (names_in h) (ap (λ (fs : List Formal). length fs) formals)
        (formals_few g (inwards w n) h.formals)

    -- ---- the declarations of a block whose names are all marked

    abbrev marked : Scope g.Reported → List Decl → Scope g.Reported
    marked s ds = fold marked_decl s ds

    module _ (ends : List ℕ) (a : Scope g.Reported) (first : ℕ) (withs : a.withs ≡ []) where
      abbrev declared : List Decl → Course g.Reported
      declared ds = fold (with_decl g ends) (marked a ds, Ok tt, first) ds

      last_withs : (ds : List Decl) → (declared ds).0.withs ≡ []
      last_withs ds = (block_changes g ends ds (marked a ds, Ok tt, first)).keeps.withs
          ∙ ((block_marked g ends ds a).keeps.withs ∙ withs)

      one_by : (before : List Decl) (d : Decl) (rest : List Decl) → (declared (before ++ d ∷ rest)).1 ≡ Ok tt
          → Within (declared (before ++ d ∷ rest)).0 → (x : Decl-F Decl Block) → out-Decl d ≡ x
          → HeadingFits {A = Decl} {B = Block} (declared (before ++ d ∷ rest)).0.own x
      one_by before d rest ok within (layer.Constants cs) e = tt
      one_by before d rest ok within (layer.Types ts) e = tt
      one_by before d rest ok within (layer.Variables vs) e = tt
      one_by before d rest ok within (layer.Procedure h b) e =
          let last : Scope g.Reported = (declared (before ++ d ∷ rest)).0 in
          stands_fit last _ h
          (headings_stay g ends a first before d rest withs ok last
          (record { own = refl; outer = refl; tables = refl; withs = last_withs (before ++ d ∷ rest) })
          (λ t x k. k) h b e)
          within

      all_from : (ds : List Decl) → (declared ds).1 ≡ Ok tt → Within (declared ds).0 → (before rest : List Decl)
          → ds ≡ before ++ rest → HeadingsFit (declared ds).0.own rest
      all_from ds ok within before [] e = tt
      all_from ds ok within before (d ∷ rest) e = (
        subst (λ (ys : List Decl). (declared ys).1 ≡ Ok tt → Within (declared ys).0
            → HeadingFits {A = Decl} {B = Block} (declared ys).0.own (out-Decl d)) (sym e)
            (λ o k. one_by before d rest o k (out-Decl d) refl) ok within,
        all_from ds ok within (before ++ d ∷ []) rest (e ∙ sym (append_assoc before (d ∷ []) rest)),
      )

      pub all_fit : (ds : List Decl) → (declared ds).1 ≡ Ok tt → Within (declared ds).0
          → HeadingsFit (declared ds).0.own ds
      all_fit ds ok within = all_from ds ok within [] ds refl

    -- ---- behind each declaration

    heading_back : {A B : Type 0} (s s' : Scope g.Reported)
        → ((name : List ℕ) (k : Known g.Reported) → is_settled k ≡ true → find_name name s.own ≡ Some k
        → find_name name s'.own ≡ Some k) → (y : Decl-F A B) → HeadingFits s'.own y → HeadingFits s.own y
    heading_back s s' settled (layer.Constants cs) fits = tt
    heading_back s s' settled (layer.Types ts) fits = tt
    heading_back s s' settled (layer.Variables vs) fits = tt
    heading_back s s' settled (layer.Procedure h b) fits =
        λ m t named is. fits m t (settled h.name.name (Headed (Ok m)) refl named) is

    module _ (ends : List ℕ) where
      fits_along : (ds : List Decl) (c : Course g.Reported) (es : Names g.Reported)
          → (fold (with_decl g ends) c ds).0.own ≡ es → HeadingsFit es ds → AllFit type_weight g heading_names ends c ds
      fits_along [] c es e fits = tt
      fits_along (d ∷ ds) c es e fits =
          let next : Course g.Reported = with_decl g ends c d in
          let last : Scope g.Reported = (fold (with_decl g ends) next ds).0 in (
            heading_back next.0 last (block_changes g ends ds next).keeps.settled (out-Decl d)
                (subst (λ (ns : Names g.Reported). HeadingFits ns (out-Decl d)) (sym e) fits.0),
            fits_along ds next es e fits.1,
          )

      -- ---- a block

      all_reported : (ds : List Decl) (c : Course g.Reported) → (fold (with_decl g ends) c ds).1 ≡ Ok tt → c.1 ≡ Ok tt
      all_reported [] c e = e
      all_reported (d ∷ ds) c e = decl_reported g {A = Decl} {B = Block} ends c (out-Decl d)
          (all_reported ds (with_decl g ends c d) e)

      marks_are : (ds : List Decl) (s : Scope g.Reported) (l : List ℕ)
          → (fold (with_marks marked_decl) (s, l) ds).0 ≡ marked s ds
      marks_are [] s l = refl
      marks_are (d ∷ ds) s l = marks_are ds (marked_decl s d) (l ++ length s.own ∷ [])

      module _ (first : ℕ) (ds : List Decl) where
        -- its headings fit, behind it and behind each declaration
        abbrev pub BlockFits : Scope g.Reported → Result (Unit {0}) g.Reported → Type 0
        BlockFits s so_far =
            let c : Course g.Reported = fold (with_decl g ends) (s, so_far, first) ds in
            c.1 ≡ Ok tt → Within c.0 → HeadingsFit c.0.own ds
            × AllFit type_weight g heading_names ends (s, so_far, first) ds

        -- no record is opened
        pub block_withs : (a : Scope g.Reported) (so_far : Result (Unit {0}) g.Reported) → a.withs ≡ []
            → (fold (with_decl g ends) ((fold (with_marks marked_decl) (a, []) ds).0, so_far, first) ds).0.withs ≡ []
        block_withs a so_far withs =
            (block_changes g ends ds ((fold (with_marks marked_decl) (a, []) ds).0, so_far, first)).keeps.withs
            ∙ (ap (λ (s : Scope g.Reported). s.withs) (marks_are ds a [])
            ∙ ((block_marked g ends ds a).keeps.withs ∙ withs))

        marked_fit : (a : Scope g.Reported) → a.withs ≡ [] → BlockFits (marked a ds) (Ok tt)
        marked_fit a withs ok within =
            let fits : HeadingsFit (declared ends a first withs ds).0.own ds =
            all_fit ends a first withs ds ok within in
            (fits, fits_along ds (marked a ds, Ok tt, first) (declared ends a first withs ds).0.own refl fits)

        pub block_fits : (a : Scope g.Reported) (so_far : Result (Unit {0}) g.Reported) → a.withs ≡ []
            → BlockFits (fold (with_marks marked_decl) (a, []) ds).0 so_far
        block_fits a so_far withs =
            subst (λ (s : Scope g.Reported). BlockFits s so_far) (sym (marks_are ds a []))
            (λ ok within.
            subst (λ (r : Result (Unit {0}) g.Reported). BlockFits (marked a ds) r)
            (sym (all_reported ds (marked a ds, so_far, first) ok)) (marked_fit a withs) ok within)
