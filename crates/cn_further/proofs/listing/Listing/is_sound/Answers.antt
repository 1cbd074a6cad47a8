use Rattle.cn_further.proofs.listing.Listing.is_sound.Goals as goal

pub returns-then-has_all_starts : goal.returns-then-has_all_starts
returns-then-has_all_starts c = λ h. record {
  starts_a = c.has_all_starts.ensures.a c.if-has_all_starts.true;
  starts_b = c.has_all_starts.ensures.b c.if-has_all_starts.true;
  list_a = c.is_closed.ensures.a h;
  list_b = c.is_closed.ensures.b h;
}
