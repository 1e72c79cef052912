-- The tokens of a round after a write through their slice.
use Rattle.std.proofs.Common.{◌≡◌, ℕ, ◌<◌, List, length, set, ap, sym, ◌∙◌, refl, length-set}
use Rattle.std.specs.List.{swap}
use Rattle.std.proofs.lemmas.List.Edits.{swap_is}
use Rattle.arrayvec.specs.ArrayVec.{ArrayVec, with_items}
use Rattle.arrayvec.proofs.ArrayVecLemmas.{items-with_items}
use Rattle.methods.specs.Deal.{dealt}
use Rattle.methods.specs.Dealing.{dealt_long}
use Rattle.methods.specs.Split.{after_split, shares}
use Rattle.methods.specs.Swap.{exchange}
use Rattle.methods.specs.Tokens.{tokens_at}

pub written_deal : (v : ArrayVec ℕ) (ts us : List ℕ) (n total : ℕ) → ts ≡ v.items → length v.items ≡ n → us ≡ dealt (length ts) total → (with_items v us).items ≡ dealt n total
written_deal v ts us n total e long d =
    let all : us ≡ dealt n total = d ∙ ap (λ m. dealt m total) (ap length e ∙ long) in
    items-with_items v us (ap length all ∙ (dealt_long n total ∙ sym long)) ∙ all

pub written_split : (v : ArrayVec ℕ) (ts : List ℕ) (giver asker : ℕ) (s : ℕ × ℕ) → ts ≡ v.items → s ≡ shares (tokens_at ts giver) → (with_items v (set (set ts giver s.1) asker s.0)).items ≡ after_split v.items giver asker
written_split v ts giver asker s e d =
    items-with_items v (set (set ts giver s.1) asker s.0) (simp length-set (ap length e)) ∙ rw (d, e) refl

pub written_exchange : (v : ArrayVec ℕ) (ts us : List ℕ) (i c : ℕ) → ts ≡ v.items → us ≡ swap ts i c → length us ≡ length ts → i < length v.items → c < length v.items → (with_items v us).items ≡ exchange v.items i c
written_exchange v ts us i c e d long p q =
    items-with_items v us (long ∙ ap length e) ∙ rw (d, e) (sym (swap_is v.items i c 0 p q))
