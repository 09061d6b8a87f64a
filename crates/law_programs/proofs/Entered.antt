-- Where the block of a procedure begins.
use Rattle.std.proofs.Common.{◌≡◌, ℕ, ◌+◌, Bool, true, false, cond, List, [], ◌∷◌, ◌++◌, length, Result, Ok, Err, refl, arith}
use Rattle.std.specs.List.{fold}
use Rattle.std.specs.Option.{is_some}
use Rattle.std.proofs.lemmas.List.{length-append}
use Rattle.m2_tree.specs.declared.name.Ident.{Ident}
use Rattle.m2_tree.specs.declared.decl.Section.{Section}
use Rattle.m2_tree.specs.declared.decl.Heading.{Heading}
use Rattle.typed_tree.specs.declared.known_types.Types.{Types}
use Rattle.typed_tree.specs.declared.meaning.Meaning.TheVariants as meaning
use Rattle.typed_tree.specs.declared.shape.Formal.{Formal}
use Rattle.m2_tree.specs.Names.{same_name}
use Rattle.typed_tree.specs.Names.{find_name, enter_name}
use Rattle.check_scope.specs.Elaborated.{Gathers}
use Rattle.check_scope.specs.declared.known.Known.{Known}
use Rattle.check_scope.specs.declared.known.Known.TheVariants.{Declared}
use Rattle.check_scope.specs.declared.known.Origin.TheVariants.{Here}
use Rattle.check_scope.specs.declared.scope.Scope.{Scope}
use Rattle.check_type_expr.specs.Headings.{formal_of}
use Rattle.check_scope.specs.Inwards.{inwards}
use Rattle.check_block.specs.Inner.{formal_kind, formal_meaning, Formals, with_formal, with_section, formals_in, entered_procedure}
use Rattle.law_well_formed.specs.Formed.{fine}
use Rattle.law_well_formed.proofs.Basics.{then_holds, any_holds}
use Rattle.law_well_formed.proofs.RangesBlocks.{entered_ranged}
use Rattle.law_well_formed.proofs.OrderBlocks.{entered_ordered}
use Rattle.law_well_formed.specs.FormedNumbers.{with_one, with_names, with_formals_of, all_formals}
use Rattle.law_programs.specs.Words.{WordsStay}
use Rattle.law_programs.specs.TypingBodies.{KnownLocal, NamesLocal, IsFresh, ScopeKnown}

-- ---- names

module _ {T : Type 0} where
  entered_local_by : (b : Bool) (name : List ℕ) (k : Known T) (e : List ℕ × Known T) (es : List (List ℕ × Known T))
      → KnownLocal k → NamesLocal (e ∷ es) → NamesLocal (enter_name name k es)
      → NamesLocal (cond b ((e.0, k) ∷ es) (e ∷ enter_name name k es))
  entered_local_by true name k e es p h q = (p, h.1)
  entered_local_by false name k e es p h q = (h.0, q)

  pub entered_local : (name : List ℕ) (k : Known T) (es : List (List ℕ × Known T)) → KnownLocal k → NamesLocal es
      → NamesLocal (enter_name name k es)
  entered_local name k [] p h = (p, tt)
  entered_local name k (e ∷ es) p h = entered_local_by (same_name name e.0) name k e es p h
      (entered_local name k es p h.1)

  -- ---- formals

  formal_local : (level n : ℕ) (f : Result Formal T) → KnownLocal (Declared Here (formal_meaning level n f))
  formal_local level n f = then_holds (any_holds f)
      (λ x k. fine (meaning.Local (record { level = level; number = n; kind = formal_kind x; of = x.of })) tt)

  unless_by : (b : Bool) (name : List ℕ) (k : Known T) (es : List (List ℕ × Known T)) → KnownLocal k → NamesLocal es
      → NamesLocal (cond b es (enter_name name k es))
  unless_by true name k es p q = q
  unless_by false name k es p q = entered_local name k es p q

  one_counts : (f : Result Formal T) (level : ℕ) (x : Ident) (so : Formals T) (fs : List Formal)
      → length so.1 ≡ length fs → length (with_formal level f so x).1 ≡ length (with_one fs f)
  one_counts (Ok f) level x so fs e =
      let a : length (so.1 ++ f.of ∷ []) ≡ length so.1 + 1 = length-append so.1 (f.of ∷ []) in
      let b : length (fs ++ f ∷ []) ≡ length fs + 1 = length-append fs (f ∷ []) in
      omega (arith, a, b, e)
  one_counts (Err z) level x so fs e = e

  -- what is known of the formals so far
  record SoFar (so : Formals T) (fs : List Formal) : Type 0 where
    locals : NamesLocal so.0
    count : length so.1 ≡ length fs

  names_so : (level : ℕ) (f : Result Formal T) (xs : List Ident) (so : Formals T) (fs : List Formal) → SoFar so fs
      → SoFar (fold (with_formal level f) so xs) (with_names f fs xs)
  names_so level f [] so fs h = h
  names_so level f (x ∷ xs) so fs h =
      names_so level f xs (with_formal level f so x) (with_one fs f) (record {
        locals = unless_by (is_some (find_name x.name so.0)) x.name
            (Declared Here (formal_meaning level (length so.1) f)) so.0 (formal_local level (length so.1) f) h.locals;
        count = one_counts f level x so fs h.count;
      })

module _ (g : Gathers) where
  sections_so : (s : Scope g.Reported) (xs : List Section) (so : Formals g.Reported) (fs : List Formal) → SoFar so fs
      → SoFar (fold (with_section g s) so xs) (fold (with_formals_of g s) fs xs)
  sections_so s [] so fs h = h
  sections_so s (x ∷ xs) so fs h = sections_so s xs (with_section g s so x) (with_formals_of g s fs x)
      (names_so s.level (formal_of g s x.is_var x.of) x.names so fs h)

  formals_so : (s : Scope g.Reported) (xs : List Section) → SoFar (formals_in g s xs) (all_formals g s xs)
  formals_so s xs = sections_so s xs ([], []) [] (record { locals = tt; count = refl })

  pub entered_locals : (s : Scope g.Reported) (seen : ℕ) (h : Heading) → NamesLocal (entered_procedure g s seen h).0.own
  entered_locals s seen h = (formals_so (inwards s seen) h.formals).locals

  pub entered_fresh : (s : Scope g.Reported) (seen : ℕ) (h : Heading) → s.withs ≡ []
      → IsFresh (entered_procedure g s seen h).0
  entered_fresh s seen h e = record { withs = e }

  -- as many variables stand there as formals
  pub entered_count : (s : Scope g.Reported) (seen : ℕ) (h : Heading)
      → length (entered_procedure g s seen h).0.variables ≡ length (all_formals g (inwards s seen) h.formals)
  entered_count s seen h = (formals_so (inwards s seen) h.formals).count

  pub entered_known : (base : Types) → WordsStay g → (s : Scope g.Reported) (seen : ℕ) (h : Heading) → ScopeKnown base s
      → ScopeKnown base (entered_procedure g s seen h).0
  entered_known base words s seen h p = record {
    ranged = entered_ranged g s seen h p.ranged;
    ordered =
        entered_ordered base g s seen h p.ordered;
    words = words.entered s seen h p.words;
  }
