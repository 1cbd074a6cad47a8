use Rattle.cn_unread_laws.proofs.MergedTypes.{from_merged, merged_of_type, to_merged}
use Rattle.cn_unread_laws.proofs.laws.merging_is_not_seen.Goals as goal

pub returns : goal.returns
returns g c = record {
  of_type = λ h t u n P closed merges known unread.
      merged_of_type h t u closed merges n P known unread;
  solves = λ h t u n P closed merges known unread. (
    to_merged h t u closed merges n P known unread,
    from_merged h t u closed merges n P known unread,
  );
}
