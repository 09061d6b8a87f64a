-- The variables and procedures of a block stand in its lists, in their order.
use Rattle.std.proofs.Common.{◌≡◌, ℕ, suc, ◌+◌, List, [], ◌∷◌, ◌++◌, length, Ok, refl, sym, ap, subst, ◌∙◌, arith}
use Rattle.std.specs.List.{fold}
use Rattle.std.proofs.lemmas.List.{append-nil, append_assoc, length-append}
use Rattle.std.proofs.lemmas.List.Sums.{fold-append}
use Rattle.typed_tree.specs.declared.meaning.Meaning.{Meaning}
use Rattle.typed_tree.specs.declared.meaning.Meaning.TheVariants as meaning
use Rattle.typed_tree.specs.declared.types.TypeNo.{TypeNo}
use Rattle.typed_tree.specs.Names.{enter_name}
use Rattle.check_scope.specs.Scopes.{with_known}
use Rattle.check_scope.specs.declared.known.Origin.TheVariants.{Here}
use Rattle.check_scope.specs.declared.known.Known.TheVariants.{Headed, Declared}
use Rattle.check_scope.specs.declared.scope.Scope.{Scope}
use Rattle.check_definition.specs.Declare.{with_variable_type, with_procedure_type}
use Rattle.check_body.specs.Own.{with_variable_of}
use Rattle.law_programs.proofs.Done.{done, InFront, Behind, next_done, next_front}

-- numbers from n on, up to c
abbrev pub From : (n c : ℕ) → List ℕ → Type 0
From n c [] = n ≡ c
From n c (k ∷ ks) = (k ≡ n) × From (suc n) c ks

from_next : (n c : ℕ) (ks : List ℕ) → From n c ks → From n (suc c) (ks ++ c ∷ [])
from_next n c [] e = (sym e, ap suc e)
from_next n c (k ∷ ks) h = (h.0, from_next (suc n) c ks h.1)

abbrev pub own_number : Meaning → List ℕ
own_number (meaning.Procedure p) = p.number ∷ []
own_number (meaning.Variable v) = []
own_number (meaning.Constant v) = []
own_number (meaning.Type t n) = []
own_number (meaning.Local v) = []
own_number (meaning.Field f) = []
own_number (meaning.LocalProcedure p) = []
own_number meaning.Ahead = []
own_number (meaning.Standard f) = []
own_number (meaning.Module k) = []

-- the numbers of procedures
abbrev pub numbers : List Meaning → List ℕ
numbers [] = []
numbers (m ∷ ms) = own_number m ++ numbers ms

numbers_both : (ms ns : List Meaning) → numbers (ms ++ ns) ≡ numbers ms ++ numbers ns
numbers_both [] ns = refl
numbers_both (m ∷ ms) ns = ap (λ (ks : List ℕ). own_number m ++ ks) (numbers_both ms ns)
    ∙ sym (append_assoc (own_number m) (numbers ms) (numbers ns))

-- ---- scopes

pub record Counts {T : Type 0} (s : Scope T) : Type 0 where
  pub variables : fold with_variable_of [] (done s.own) ≡ s.variables
  pub procedures : From 0 (length s.procedures) (numbers (done s.own))
  pub front : InFront s.own

module _ {T : Type 0} where
  pub counts_kept : (s s' : Scope T) → done s'.own ≡ done s.own → s'.variables ≡ s.variables
      → s'.procedures ≡ s.procedures → (InFront s.own → InFront s'.own) → Counts s → Counts s'
  counts_kept s s' d v p f c = record {
    variables = ap (λ (ms : List Meaning). fold with_variable_of [] ms) d ∙ c.variables ∙ sym v;
    procedures = subst (λ (ps : List TypeNo). From 0 (length ps) (numbers (done s'.own))) (sym p)
        (subst (λ (ms : List Meaning). From 0 (length s.procedures) (numbers ms)) (sym d) c.procedures);
    front = f c.front;
  }

  -- a variable is declared under a name that stands behind settled ones
  pub variable_counts : (s : Scope T) (name : List ℕ) (t : TypeNo) → Behind name s.own → Counts s
      → Counts (with_known name (Declared Here
      (Ok (meaning.Variable (record { home = s.types.home; number = length s.variables; of = t }))))
      (with_variable_type s (Ok t)))
  variable_counts s name t b c =
      let v : Meaning = meaning.Variable (record { home = s.types.home; number = length s.variables; of = t }) in
      let d : done (enter_name name (Declared Here (Ok v)) s.own) ≡ done s.own ++ v ∷ [] =
      next_done name (Declared Here (Ok v)) v s.own refl b c.front in
      record {
        variables = ap (λ (ms : List Meaning). fold with_variable_of [] ms) d
            ∙ fold-append with_variable_of [] (done s.own) (v ∷ [])
            ∙ ap (λ (ts : List TypeNo). ts ++ t ∷ []) c.variables;
        procedures = subst (λ (ks : List ℕ). From 0 (length s.procedures) ks)
            (sym (ap numbers d ∙ (numbers_both (done s.own) (v ∷ []) ∙ append-nil (numbers (done s.own)))))
            c.procedures;
        front = next_front name (Declared Here (Ok v)) s.own refl b c.front;
      }

  -- so is a procedure
  pub procedure_counts : (s : Scope T) (name : List ℕ) (t : TypeNo) → Behind name s.own → Counts s
      → Counts (with_known name (Headed
      (Ok (meaning.Procedure (record { home = s.types.home; number = length s.procedures; heading = t }))))
      (with_procedure_type s (Ok t)))
  procedure_counts s name t b c =
      let v : Meaning = meaning.Procedure (record { home = s.types.home; number = length s.procedures; heading = t }) in
      let d : done (enter_name name (Headed (Ok v)) s.own) ≡ done s.own ++ v ∷ [] =
      next_done name (Headed (Ok v)) v s.own refl b c.front in
      let count : length (s.procedures ++ t ∷ []) ≡ length s.procedures + 1 = length-append s.procedures (t ∷ []) in
      let one : suc (length s.procedures) ≡ length (s.procedures ++ t ∷ []) = omega (arith, count) in
      record {
        variables = ap (λ (ms : List Meaning). fold with_variable_of [] ms) d
            ∙ fold-append with_variable_of [] (done s.own) (v ∷ []) ∙ c.variables;
        procedures = subst (λ (c : ℕ). From 0 c (numbers (done (enter_name name (Headed (Ok v)) s.own)))) one
            (subst (λ (ks : List ℕ). From 0 (suc (length s.procedures)) ks)
            (sym (ap numbers d ∙ numbers_both (done s.own) (v ∷ [])))
            (from_next 0 (length s.procedures) (numbers (done s.own)) c.procedures));
        front = next_front name (Headed (Ok v)) s.own refl b c.front;
      }
