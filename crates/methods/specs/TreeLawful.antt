-- The token tree keeps what every counting method keeps.
use Rattle.std.specs.Prelude.{◌≡◌, ℕ, ◌-◌, ◌*◌, ◌<◌, ◌≤◌, true, length, sum, ◌==◌, refl}
use Rattle.common.specs.Limits.{most_stations, most_arrivals, most_messages}
use Rattle.std.proofs.Common.{ap, ⊎_elim, arith}
use Rattle.std.proofs.lemmas.List.{get_or_past}
use Rattle.std.proofs.lemmas.List.Sums.{get_or-le-sum_by}
use Rattle.std.proofs.lemmas.Bool.{cases_eq, cases_lt, cond_both, ltb-true}
use Rattle.methods.specs.Model.{Lawful}
use Rattle.methods.specs.Tokens.{TreeState, green, tokens_at}
use Rattle.methods.specs.Deal.{new_round}
use Rattle.methods.specs.Arrival.{arrival}
use Rattle.methods.specs.Tree.{Sound, tree_model}
use Rattle.methods.specs.Arriving.{arrival_keeps}
use Rattle.methods.specs.Dealing.{dealt_green, dealt_long, dealt_total}

pub round_sound : (n w : ℕ) → 1 ≤ n → n ≤ most_stations → w ≤ most_arrivals → Sound (new_round n w)
round_sound n w p small few =
    let total = dealt_total n w p in
    record {
      small = omega (arith, dealt_long n w);
      few = omega (arith, total);
      rooted = λ some. dealt_green n w p (omega (arith, total));
    }

pub arrival_sound : (q : TreeState) (i : ℕ) → Sound q → i < length q.tokens → 0 < sum q.tokens → Sound (arrival q.limit q.tokens i).after
arrival_sound q i s p some =
    let a = arrival_keeps q.limit q.tokens i s.small p (s.rooted some) in
    record { small = omega (arith, a.long, s.small); few = omega (arith, a.total, s.few); rooted = a.rooted }

pub tree_lawful : Lawful tree_model
tree_lawful =
    record {
      fresh_valid = record { small = omega arith; few = omega arith; rooted = λ some. absurd (omega arith) };
      fresh_stations = refl;
      fresh_outstanding = refl;
      begun_valid = λ q n w can. round_sound n w can.some_stations can.few_stations can.few_arrivals;
      begun_stations = λ q n w can. dealt_long n w;
      begun_outstanding = λ q n w can. dealt_total n w can.some_stations;
      begun_few = λ q n w can. cond_both (w == 0) 0 (n - 1) (λ x. x ≤ most_messages) (λ _. omega arith) (λ _. omega (arith, can.few_stations));
      arrived_valid = λ q i can. arrival_sound q i can.valid can.counted can.awaited;
      arrived_stations = λ q i can. (arrival_keeps q.limit q.tokens i can.valid.small can.counted (can.valid.rooted can.awaited)).long;
      arrived_outstanding = λ q i can. (arrival_keeps q.limit q.tokens i can.valid.small can.counted (can.valid.rooted can.awaited)).total;
      arrived_few = λ q i can. (arrival_keeps q.limit q.tokens i can.valid.small can.counted (can.valid.rooted can.awaited)).few;
    }

-- ## The root

-- a root without tokens is not green
pub green_some : (q : TreeState) → green q.limit (tokens_at q.tokens 0) ≡ true → 0 < sum q.tokens
green_some q g =
    let rich = ltb-true q.limit (2 * tokens_at q.tokens 0) g in
    ⊎_elim
    (λ has. omega (arith, get_or-le-sum_by (λ x. x) q.tokens 0 0 has))
    (λ none. absurd (omega (arith, get_or_past q.tokens 0 0 none)))
    (cases_lt 0 (length q.tokens))

-- so the root never asks
pub asker_below : (q : TreeState) (i : ℕ) → Sound q → 0 < sum q.tokens → tokens_at q.tokens i ≡ 0 → 0 < i
asker_below q i s some none =
    let rich = s.rooted some in
    ⊎_elim
    (λ z. let same : tokens_at q.tokens i ≡ tokens_at q.tokens 0 = ap (tokens_at q.tokens) z in absurd (omega (arith, same)))
    (λ z. omega arith)
    (cases_eq i 0)
