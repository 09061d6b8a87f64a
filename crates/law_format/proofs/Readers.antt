-- Bytes that encode a module have no first fault, so the reader answers the first fault.
use Rattle.std.proofs.Common.{◌≡◌, ℕ, List, [], ◌∷◌, ◌++◌, Option, Some, None, Ok, Err, refl, sym, ap, subst, ◌∙◌, append_assoc, inl, inr}
use Rattle.wasm_tree.specs.declared.fault.WFault.{WFault}
use Rattle.wasm_tree.specs.declared.module.WModule.{WModule}
use Rattle.wasm_tree.specs.Format.{Reading}
use Rattle.wasm_binary.specs.Binary.{module_at, Encodes}
use Rattle.wasm_code.proofs.Laws.{IsBytes}
use Rattle.wasm_binary.proofs.LawsModule.{module_takes}
use Rattle.law_format.specs.Layouts.{Mark, Byte, Opens, Closes, Last, flat, room, within}
use Rattle.law_format.specs.FirstFault.{Begins, FirstFault, ModulesHaveNone, ReaderAnswersFirst}
use Rattle.law_format.proofs.Breaks.{flat-append, then_room, room-append, no_room, same_behind}
use Rattle.law_format.proofs.Chains.{within_none}
use Rattle.law_format.proofs.Endings.{Inner, layout_ended}
use Rattle.law_format.proofs.EncodedModules.{layout_of, module_kept, module_flat, layout_fits}
use Rattle.law_format.proofs.OneFault.{Beside, Compared, Reached, reached, compared, Reason, reason_of, longer_goes_on, same_rest, closes_last, last_opens, beside_back, no_byte, inner_of, inner_behind, one_fault}
use Rattle.law_format.proofs.Deciding.{first_fault_decides}

-- ---- a whole module is reached

abbrev Rooms : Type 0
Rooms = Option (List ℕ)

room_before : (o : Rooms) → then_room o (Last ∷ []) ≡ Some [] → o ≡ Some []
room_before (Some rooms) e = e
room_before None e = absurd (no_room [] e)

whole_module : (bytes : List ℕ) (m : WModule) → Encodes bytes m → Reached bytes
whole_module bytes m s =
    let e = layout_ended (layout_of m) in
    record {
      front = e.front;
      at = [];
      parts = s.encoding ∙ sym (module_flat m) ∙ ap flat e.whole ∙ flat-append e.front (Last ∷ []);
      rooms = [];
      kept = room_before (room [] e.front) (sym (room-append [] e.front (Last ∷ [])) ∙ ap (room []) (sym e.whole)
          ∙ module_kept m);
      next = Last;
      begins = record { layout = layout_of m; fits = layout_fits m s.fits; rest = []; marks = e.whole };
    }

-- no reason is left where a module ends
none_at_end : (front : List Mark) (x : Mark) (rooms : List ℕ) (fault : WFault) → Reason front x rooms [] fault
    → Begins front Last → Beside x Last → ⊥
none_at_end front (Byte c) rooms fault r b t = r.1 b
none_at_end front (Opens n) rooms fault r b t = r
none_at_end front Closes rooms fault r b t = closes_last t
none_at_end front Last rooms fault r b t = r

-- nothing goes on behind the end
none_behind : (n : Mark) (more : List Mark) (at : List ℕ) → [] ≡ flat (n ∷ more) ++ at → Inner (n ∷ more)
    → Beside Last n → ⊥
none_behind (Byte c) more at e inner t = no_byte c.1 (flat more ++ at) e
none_behind (Opens k) more at e inner t = last_opens k t
none_behind Closes more at e inner t = closes_last (beside_back Last Closes t)
none_behind Last more at e inner t = inner

module _ (bytes : List ℕ) (m : WModule) (enc : Encodes bytes m) (fault : WFault) where
  none_of : (a b : Reached bytes) → b.at ≡ [] → b.next ≡ Last
      → Reason a.front a.next a.rooms (within a.rooms a.at) fault → Compared a.front b.front a.next b.next → ⊥
  none_of a b e l r (inl h) =
      none_at_end a.front a.next a.rooms fault
      (subst (λ (w : List ℕ). Reason a.front a.next a.rooms w fault)
      (ap (within a.rooms) (sym (same_rest bytes a b h.0) ∙ e) ∙ within_none a.rooms) r)
      (subst (λ (f : List Mark). Begins f Last) (sym h.0) (subst (λ (n : Mark). Begins b.front n) l b.begins))
      (subst (λ (n : Mark). Beside a.next n) l h.1)
  none_of a b e l r (inr (inl k)) = longer_goes_on bytes a b fault r k
  none_of a b e l r (inr (inr k)) =
      let text : flat b.front ++ [] ≡ flat b.front ++ (flat (k.next ∷ k.more) ++ a.at) =
      ap (λ (t : List ℕ). flat b.front ++ t) (sym e) ∙ sym b.parts ∙ a.parts
      ∙ ap (λ (t : List Mark). flat t ++ a.at) k.longer
      ∙ ap (λ (t : List ℕ). t ++ a.at) (flat-append b.front (k.next ∷ k.more))
      ∙ append_assoc (flat b.front) (flat (k.next ∷ k.more)) a.at in
      none_behind k.next k.more a.at (same_behind (flat b.front) [] (flat (k.next ∷ k.more) ++ a.at) text)
      (inner_behind b.front (k.next ∷ k.more) (subst Inner k.longer (inner_of a.front a.next a.begins)))
      (subst (λ (n : Mark). Beside n k.next) l k.turn)

pub modules_have_none : ModulesHaveNone
unfolding whole_module
modules_have_none bytes m enc fault s =
    let a = reached bytes fault s in
    let b = whole_module bytes m enc in
    none_of bytes m enc fault a b refl refl (reason_of bytes fault s) (compared bytes a b)

-- ---- the reader

by_reading : (bytes : List ℕ) (fault : WFault) → IsBytes bytes → FirstFault bytes fault → (r : Reading WModule)
    → module_at bytes ≡ r → module_at bytes ≡ Err fault
by_reading bytes fault fits s (Err f) e = e
    ∙ ap (λ (g : WFault). failed g) (one_fault bytes f fault (first_fault_decides bytes fits f e) s)
  where
    failed : WFault → Reading WModule
    failed g = Err g
by_reading bytes fault fits s (Ok x) e =
    absurd (modules_have_none bytes x.0 (module_takes bytes x.0 x.1 fits e).0 fault s)

pub reader_answers_first : ReaderAnswersFirst
reader_answers_first bytes fits fault = (
  λ e. first_fault_decides bytes fits fault e,
  λ s. by_reading bytes fault fits s
      (module_at bytes) refl,
)
