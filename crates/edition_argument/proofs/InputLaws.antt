-- What stands at the start of a room that is filled part by part.
-- Assumes nothing.
use Rattle.std.proofs.Common.{◌≡◌, ℕ, ◌+◌, ◌≤◌, List, ◌++◌, length, take, drop, sym, ap, ◌∙◌, le_refl, drop_at, length-take-le}
use Rattle.std.proofs.lemmas.Slice.{take-put_mid_below}
use borrow.Rule.Slice.PartMut.{put_mid, post_of}
use lib.Seq.{take-add, take-append-le}

-- what stood there, and what was put behind it
pub filled_more : (done more k : ℕ) (room part : List ℕ) → done ≤ length room → more ≤ length part
    → take done room ++ take more part ≡ take (done + more) (put_mid done k room part)
filled_more done more k room part within enough =
    let whole = put_mid done k room part in
    let behind : take more (drop done whole) ≡ take more part =
    ap (take more) (drop_at (take done room) (part ++ post_of done k room) done (length-take-le done room within)) ∙ take-append-le more part (post_of done k room) enough in
    ap (λ (l : List ℕ). l ++ take more part) (sym (take-put_mid_below done k room part done (le_refl done) within))
    ∙ ap (λ (l : List ℕ). take done whole ++ l) (sym behind)
    ∙ sym (take-add done more whole)
