-- The procedures of a block are numbered in the order of their headings.
use Rattle.std.proofs.Common.{◌≡◌, ℕ, ◌+◌, ◌==◌, Bool, true, false, cond, List, [], ◌∷◌, ◌++◌, length, Option, Some, Result, Ok, Err, ◌⊎◌, inl, inr, refl, sym, ap, subst, ◌∙◌, append-nil, append_assoc}
use Rattle.std.proofs.lemmas.List.{length-append}
use Rattle.std.specs.Prelude.{slice_get}
use Rattle.std.specs.List.{fold}
use Rattle.m2_tree.specs.declared.decl.Heading.{Heading}
use Rattle.m2_tree.specs.declared.decl.Block.{Block}
use Rattle.m2_tree.specs.declared.decl.Decl.{Decl, Decl-F, out-Decl}
use Rattle.m2_tree.specs.declared.decl.Decl.TheOpen as dlayer
use Rattle.typed_tree.specs.declared.types.TypeNo.{TypeNo}
use Rattle.typed_tree.specs.declared.shape.Made.{Made}
use Rattle.typed_tree.specs.declared.meaning.Meaning.{Meaning}
use Rattle.typed_tree.specs.declared.meaning.Meaning.TheVariants as meaning
use Rattle.typed_tree.specs.declared.meaning.Procedure.{Procedure as ModuleProcedure}
use Rattle.typed_tree.specs.Names.{find_name}
use Rattle.check_scope.specs.Elaborated.{Gathers}
use Rattle.check_scope.specs.Scopes.{with_known, is_free, is_begun}
use Rattle.check_scope.specs.declared.known.Known.{Known}
use Rattle.check_scope.specs.declared.known.Known.TheVariants.{Headed, Declared}
use Rattle.check_scope.specs.declared.known.Origin.TheVariants.{Here}
use Rattle.check_scope.specs.declared.scope.Scope.{Scope}
use Rattle.check_scope.specs.Scopes.{heading_means}
use Rattle.check_type_expr.specs.Headings.{heading_of}
use Rattle.check_type_expr.specs.Made.{with_shape, with_made, nothing_of}
use Rattle.check_definition.specs.Declare.{with_variable_type, with_procedure_type}
use Rattle.check_block.specs.Nesting.{number_behind}
use Rattle.check_block.specs.Declarations.{Course, decl_layer, with_decl}
use Rattle.check_block.specs.declared.heading.Standing.{Standing}
use Rattle.check_block.specs.declared.heading.Standing.TheVariants.{Free, Awaited, Taken}
use Rattle.check_block.specs.Headings.{name_standing, headed_as, new_procedure, module_procedure, set_heading, nested_meaning}
use Rattle.law_typing.proofs.Entering.{entered_all}
use Rattle.def_typed.specs.Numbers.{headings_by, headings_in}
use Rattle.law_numbers.specs.Numbered as numbered
use Rattle.law_numbers.specs.Numbered.{Entry, no_heading, new_heading, awaited_heading, nested_heading}
use Rattle.law_folds.proofs.BlockSteps.{free_standing}
use Rattle.law_numbers.proofs.Walking.{waiting, IsEntered, later_is, ahead_is, begun_is, headed_is, declared_is, constants_stay, types_stay, variables_stay}
use Rattle.law_numbers.proofs.Variables.{get_left, beside_second, entered_here, free_beside, begun_beside, awaited_beside}
use Rattle.law_numbers.proofs.Declaring.{decls_fine}

module _ (g : Gathers) (home level : ℕ) (ends : List ℕ) (start : Scope g.Reported) where
  abbrev S : Type 0
  S = Scope g.Reported

  abbrev Waits : S → List ℕ → ModuleProcedure → Type 0
  Waits s n p = Entry s n (Declared Here (Ok (meaning.Procedure p)))

  -- what is known of a procedure of the definition: it awaits its heading, or has it
  abbrev Stays : List ℕ → ModuleProcedure → Option (Known g.Reported) → Type 0
  Stays n p o = (o ≡ Some (Declared Here (Ok (meaning.Procedure p)))) ⊎ (o ≡ Some (Headed (Ok (meaning.Procedure p))))

  clash : {b : Bool} → b ≡ true → b ≡ false → ⊥
  clash p q = let z = sym p ∙ q in absurd cc

  not_free : (n : List ℕ) (p : ModuleProcedure) (o : Option (Known g.Reported)) → Stays n p o → is_free o ≡ true → ⊥
  not_free n p o (inl e) f = clash f (ap is_free e)
  not_free n p o (inr e) f = clash f (ap is_free e)

  not_begun : (n : List ℕ) (p : ModuleProcedure) (o : Option (Known g.Reported)) → Stays n p o → is_begun o ≡ true → ⊥
  not_begun n p o (inl e) f = clash f (ap is_begun e)
  not_begun n p o (inr e) f = clash f (ap is_begun e)

  -- a heading that was awaited
  gets_heading : (n : List ℕ) (a p : ModuleProcedure) (o : Option (Known g.Reported))
      → o ≡ Some (Declared Here (Ok (meaning.Procedure a))) → Stays n p o
      → Stays n p (Some (Headed (Ok (meaning.Procedure a))))
  gets_heading n a p o w (inl e) = let q : a ≡ p = cc (sym w ∙ e) in
      inr (ap (λ (z : ModuleProcedure). Some (Headed (Ok (meaning.Procedure z)))) q)
  gets_heading n a p o w (inr e) = let q = sym w ∙ e in absurd cc

  -- what declarations leave alone
  abbrev pub Rest : S → Type 0
  Rest s = (s.outer ≡ start.outer) × (s.withs ≡ start.withs) × (s.tables ≡ start.tables)

  -- variables that have numbers keep them
  abbrev pub Olds : S → Type 0
  Olds s = (i : ℕ) (t : TypeNo) → slice_get start.variables i ≡ Some t → slice_get s.variables i ≡ Some t

  abbrev Kept : S → Type 0
  Kept s = (x : List ℕ) (p : ModuleProcedure) → Waits start x p → Stays x p (find_name x s.own)

  kept_beside : (s : S) (name : List ℕ) (k : Known g.Reported)
      → ((p : ModuleProcedure) → Stays name p (find_name name s.own) → Stays name p (Some k)) → Kept s
      → Kept (with_known name k s)
  kept_beside s name k h q x p = entered_all
      (λ (x : List ℕ) (o : Option (Known g.Reported)). Waits start x p → Stays x p o) name k s.own
      (λ w. h p (q name p w)) (λ x c w. q x p w) x

  abbrev AreHeaded : S → (m n : ℕ) → List Heading → (m' n' : ℕ) → Type 0
  AreHeaded s = numbered.AreHeaded home level ends start s

  headed_as_before : {s t : S} {m n m' n' : ℕ} {hs : List Heading}
      → ((x : List ℕ) (r : Meaning) → Entry s x (Headed (Ok r)) → Entry t x (Headed (Ok r))) → AreHeaded s m n hs m' n'
      → AreHeaded t m n hs m' n'
  headed_as_before k no_heading = no_heading
  headed_as_before k (new_heading t l w e r) = new_heading t l w (k _ _ e) (headed_as_before k r)
  headed_as_before k (awaited_heading p w e r) = awaited_heading p w (k _ _ e) (headed_as_before k r)
  headed_as_before k (nested_heading t l e r) = nested_heading t l (k _ _ e) (headed_as_before k r)

  headed_more : {s : S} {m n m' n' m'' n'' : ℕ} {hs ks : List Heading} → AreHeaded s m n hs m' n'
      → AreHeaded s m' n' ks m'' n'' → AreHeaded s m n (hs ++ ks) m'' n''
  headed_more no_heading k = k
  headed_more (new_heading t l w e r) k = new_heading t l w e (headed_more r k)
  headed_more (awaited_heading p w e r) k = awaited_heading p w e (headed_more r k)
  headed_more (nested_heading t l e r) k = nested_heading t l e (headed_more r k)

  -- ---- what all declarations keep

  module _ (m n : ℕ) where
    pub record IsNumbered (hs : List Heading) (m' n' : ℕ) (s : S) : Type 0 where
      pub headed : AreHeaded s m n hs m' n'
      pub next : length s.procedures ≡ m'
      pub waits : (x : List ℕ) (p : ModuleProcedure) → Waits s x p → Waits start x p
      pub kept : Kept s
      pub of_home : s.types.home ≡ home
      pub of_level : s.level ≡ level
      pub of_rest : Rest s
      pub of_variables : Olds s

    module _ (hs : List Heading) (m' n' : ℕ) where
      abbrev P : S → Type 0
      P = IsNumbered hs m' n'

      -- what is entered is no procedure that awaits its heading
      no_wait : {k : Known g.Reported} (p : ModuleProcedure) → IsEntered k
          → k ≡ Declared Here (Ok (meaning.Procedure p)) → ⊥
      no_wait p later_is e = absurd cc
      no_wait p ahead_is e = absurd cc
      no_wait p begun_is e = absurd cc
      no_wait p (headed_is r) e = absurd cc
      no_wait p (declared_is r n) e = n p (cc e)

      waits_by : (s : S) (name : List ℕ) (k : Known g.Reported) → IsEntered k
          → ((x : List ℕ) (p : ModuleProcedure) → Waits s x p → Waits start x p) → (x : List ℕ) (p : ModuleProcedure)
          → Waits (with_known name k s) x p → Waits start x p
      waits_by s name k i h x p = entered_all
          (λ (x : List ℕ) (o : Option (Known g.Reported)). o ≡ Some (Declared Here (Ok (meaning.Procedure p)))
          → Waits start x p) name k s.own (λ e. absurd (no_wait p i (cc e))) (λ x c e. h x p e) x

      entered_by : {s : S} (name : List ℕ) (k : Known g.Reported) → IsEntered k
          → ((p : ModuleProcedure) → Stays name p (find_name name s.own) → ⊥)
          → ((x : List ℕ) (r : Meaning) → Entry s x (Headed (Ok r)) → Entry (with_known name k s) x (Headed (Ok r)))
          → P s → P (with_known name k s)
      entered_by {s = s} name k i n h p = record {
        headed = headed_as_before h p.headed;
        next = p.next;
        waits =
            waits_by s name k i p.waits;
        kept = kept_beside s name k (λ a z. absurd (n a z)) p.kept;
        of_home = p.of_home;
        of_level = p.of_level;
        of_rest = p.of_rest;
        of_variables = p.of_variables;
      }

      pub free : (s : S) (name : List ℕ) (k : Known g.Reported) → IsEntered k → is_free (find_name name s.own) ≡ true
          → P s → P (with_known name k s)
      free s name k i e p = entered_by name k i (λ a z. not_free name a (find_name name s.own) z e)
          (λ x r h. free_beside g x (Headed (Ok r)) refl s name k e h) p

      begun : (s : S) (name : List ℕ) (k : Known g.Reported) → IsEntered k → is_begun (find_name name s.own) ≡ true
          → P s → P (with_known name k s)
      begun s name k i e p = entered_by name k i (λ a z. not_begun name a (find_name name s.own) z e)
          (λ x r h. begun_beside g x (Headed (Ok r)) refl s name k e h) p

      shaped : (s : S) (d : Made) → P s → P (with_shape s d)
      shaped s d p = record {
        headed = headed_as_before (λ x r h. h) p.headed;
        next = p.next;
        waits = p.waits;
        kept =
            p.kept;
        of_home = p.of_home;
        of_level = p.of_level;
        of_rest = p.of_rest;
        of_variables = p.of_variables;
      }

      varied : (s : S) (t : Result TypeNo g.Reported) → P s → P (with_variable_type s t)
      varied s (Ok t) p = record {
        headed = headed_as_before (λ x r h. h) p.headed;
        next = p.next;
        waits = p.waits;
        kept = p.kept;
        of_home = p.of_home;
        of_level = p.of_level;
        of_rest = p.of_rest;
        of_variables =
            λ i u e. get_left s.variables (t ∷ []) i u (p.of_variables i u e);
      }
      varied s (Err r) p = p

    -- ---- one heading more

    -- what a heading leads to, with the number that is next
    abbrev More : List Heading → ℕ → Heading → S → Type 0
    More hs n' h t = (m'' : ℕ) × IsNumbered (hs ++ h ∷ []) m'' (number_behind ends n') t

    module _ (hs : List Heading) (m' n' : ℕ) (h : Heading) where
      -- the entry of this heading, and all that was there before
      added : {s t : S} (m'' : ℕ) → ((x : List ℕ) (r : Meaning) → Entry s x (Headed (Ok r)) → Entry t x (Headed (Ok r)))
          → AreHeaded t m' n' (h ∷ []) m'' (number_behind ends n') → length t.procedures ≡ m''
          → ((x : List ℕ) (p : ModuleProcedure) → Waits t x p → Waits start x p) → Kept t → t.types.home ≡ home
          → t.level ≡ level → Rest t → Olds t → IsNumbered hs m' n' s → More hs n' h t
      added m'' k one next waits kept eh el er eo p = (
        m'',
        record {
          headed = headed_more (headed_as_before k p.headed) one;
          next = next;
          waits = waits;
          kept =
              kept;
          of_home = eh;
          of_level = el;
          of_rest = er;
          of_variables = eo;
        },
      )

      new_in_module : (s : S) (u : TypeNo) → (level == 0) ≡ true → is_free (find_name h.name.name s.own) ≡ true
          → IsNumbered hs m' n' s → More hs n' h (module_procedure s h.name.name (Ok u))
      new_in_module s u l f p = added (m' + 1)
          (λ x r e. free_beside g x (Headed (Ok r)) refl (with_procedure_type s (Ok u)) h.name.name _ f e)
          (new_heading u l (λ a w. not_free h.name.name a (find_name h.name.name s.own) (p.kept h.name.name a w) f)
          (subst (λ (a : ℕ). Entry (module_procedure s h.name.name (Ok u)) h.name.name
          (Headed (Ok (meaning.Procedure (record { home = a; number = m'; heading = u }))))) p.of_home
          (subst (λ (a : ℕ). Entry (module_procedure s h.name.name (Ok u)) h.name.name
          (Headed (Ok (meaning.Procedure (record { home = s.types.home; number = a; heading = u }))))) p.next
          (entered_here (with_procedure_type s (Ok u)) h.name.name _))) no_heading)
          (length-append s.procedures (u ∷ []) ∙ ap (λ (a : ℕ). a + 1) p.next)
          (waits_by hs m' n' (with_procedure_type s (Ok u)) h.name.name _ (headed_is _) p.waits)
          (kept_beside (with_procedure_type s (Ok u)) h.name.name _
          (λ a z. absurd (not_free h.name.name a (find_name h.name.name s.own) z f)) p.kept) p.of_home p.of_level
          p.of_rest p.of_variables p

      new_in_procedure : (s : S) (u : TypeNo) → (level == 0) ≡ false → is_free (find_name h.name.name s.own) ≡ true
          → IsNumbered hs m' n' s → More hs n' h
          (set_heading h.name.name (heading_means true (nested_meaning s.level n' (Ok u))) s)
      new_in_procedure s u l f p = added m' (λ x r e. free_beside g x (Headed (Ok r)) refl s h.name.name _ f e)
          (nested_heading u l (subst (λ (a : ℕ). Entry
          (set_heading h.name.name (heading_means true (nested_meaning s.level n' (Ok u))) s) h.name.name
          (Headed (Ok (meaning.LocalProcedure (record { level = a; number = n'; heading = u }))))) p.of_level
          (entered_here s h.name.name _)) no_heading)
          p.next (waits_by hs m' n' s h.name.name _ (headed_is _) p.waits)
          (kept_beside s h.name.name _ (λ a z. absurd (not_free h.name.name a (find_name h.name.name s.own) z f))
          p.kept) p.of_home p.of_level p.of_rest p.of_variables p

      new_by : (b : Bool) (s : S) (u : TypeNo) → (level == 0) ≡ b → is_free (find_name h.name.name s.own) ≡ true
          → IsNumbered hs m' n' s → More hs n' h
          (cond b (module_procedure s h.name.name (Ok u))
          (set_heading h.name.name (heading_means true (nested_meaning s.level n' (Ok u))) s))
      new_by true s u l f p = new_in_module s u l f p
      new_by false s u l f p = new_in_procedure s u l f p

      heading_more : (s : S) (o : Standing) → name_standing (find_name h.name.name s.own) ≡ o → IsNumbered hs m' n' s
          → (headed_as g s h n' (heading_of g s h) o).1 ≡ Ok tt
          → More hs n' h (headed_as g s h n' (heading_of g s h) o).0
      heading_more s Free q p e = by_made (heading_of g s h) e
        where
          by_made : (r : Result Made g.Reported) → nothing_of (with_made s r).1 ≡ Ok tt
              → More hs n' h (new_procedure (with_made s r).0 h.name.name n' (with_made s r).1)
          by_made (Err k) w = absurd cc
          by_made (Ok d) w = new_by (s.level == 0) (with_shape s d) _ (ap (λ (l : ℕ). l == 0) (sym p.of_level))
              (free_standing (find_name h.name.name s.own) q) (shaped hs m' n' s d p)
      heading_more s (Awaited a) q p e = added m'
          (λ x r w. awaited_beside g x (Headed (Ok r)) (λ z v. absurd cc) s h.name.name a _ q w)
          (awaited_heading a (p.waits h.name.name a (waiting (find_name h.name.name s.own) a q))
          (entered_here s h.name.name (Headed (Ok (meaning.Procedure a)))) no_heading)
          p.next (waits_by hs m' n' s h.name.name _ (headed_is _) p.waits)
          (kept_beside s h.name.name _ (λ b z. gets_heading h.name.name a b (find_name h.name.name s.own)
          (waiting (find_name h.name.name s.own) a q) z) p.kept) p.of_home p.of_level p.of_rest p.of_variables p
      heading_more s Taken q p e = let w = beside_second g _ _ e in absurd cc

    -- ---- all declarations

    layer_numbered : (hs : List Heading) (m' : ℕ) (c : Course g.Reported) (y : Decl-F Decl Block)
        → IsNumbered hs m' c.2 c.0 → (decl_layer g ends c y).1 ≡ Ok tt → (m'' : ℕ)
        × IsNumbered (hs ++ headings_by y) m'' (decl_layer g ends c y).2 (decl_layer g ends c y).0
    layer_numbered hs m' c (dlayer.Constants cs) p e = (
      m',
      same (constants_stay g (IsNumbered hs m' c.2) (free hs m' c.2) (shaped hs m' c.2) (begun hs m' c.2) cs
          (c.0, c.1) p),
    )
      where
        same : {s : S} → IsNumbered hs m' c.2 s → IsNumbered (hs ++ []) m' c.2 s
        same {s = s} q = subst (λ (ks : List Heading). IsNumbered ks m' c.2 s) (sym (append-nil hs)) q
    layer_numbered hs m' c (dlayer.Types ts) p e = (
      m',
      same (types_stay g (IsNumbered hs m' c.2) (free hs m' c.2) (shaped hs m' c.2) (begun hs m' c.2) ts
          (c.0, c.1) p),
    )
      where
        same : {s : S} → IsNumbered hs m' c.2 s → IsNumbered (hs ++ []) m' c.2 s
        same {s = s} q = subst (λ (ks : List Heading). IsNumbered ks m' c.2 s) (sym (append-nil hs)) q
    layer_numbered hs m' c (dlayer.Variables vs) p e = (
      m',
      same (variables_stay g (IsNumbered hs m' c.2) (free hs m' c.2) (shaped hs m' c.2) (begun hs m' c.2)
          (varied hs m' c.2) (c.0, c.1) vs p),
    )
      where
        same : {s : S} → IsNumbered hs m' c.2 s → IsNumbered (hs ++ []) m' c.2 s
        same {s = s} q = subst (λ (ks : List Heading). IsNumbered ks m' c.2 s) (sym (append-nil hs)) q
    layer_numbered hs m' c (dlayer.Procedure h b) p e =
        heading_more hs m' c.2 h c.0 (name_standing (find_name h.name.name c.0.own)) refl p
        (beside_second g _ _ (beside_second g _ _ e))

    pub decls_numbered : (hs : List Heading) (m' : ℕ) (ds : List Decl) (c : Course g.Reported)
        → IsNumbered hs m' c.2 c.0 → (fold (with_decl g ends) c ds).1 ≡ Ok tt → (m'' : ℕ)
        × IsNumbered (hs ++ headings_in ds) m'' (fold (with_decl g ends) c ds).2 (fold (with_decl g ends) c ds).0
    decls_numbered hs m' [] c p e = (
      m',
      subst (λ (ks : List Heading). IsNumbered ks m' c.2 c.0) (sym (append-nil hs))
          p,
    )
    decls_numbered hs m' (d ∷ ds) c p e =
        let q = layer_numbered hs m' c (out-Decl d) p (decls_fine g home level ends ds (with_decl g ends c d) e) in
        let r = decls_numbered (hs ++ headings_by (out-Decl d)) q.0 ds (with_decl g ends c d) q.1 e in (
          r.0,
          subst (λ (ks : List Heading). IsNumbered ks r.0 (fold (with_decl g ends) c (d ∷ ds)).2
              (fold (with_decl g ends) c (d ∷ ds)).0) (append_assoc hs (headings_by (out-Decl d)) (headings_in ds)) r.1,
        )
