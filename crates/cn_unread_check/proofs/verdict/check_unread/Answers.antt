use Rattle.std.proofs.Common.{rules, ◌≢◌, inr}
use Rattle.cn_unread_cert.specs.Right.{AreInRange, IsRight, ShowsAtLeast, ShowsAtMost}
use Rattle.cn_unread_check.proofs.Verdicts.{bad_number, no_least, no_most, other_type}
use Rattle.cn_unread_check.specs.Faults.{IsFirstFault}
use Rattle.cn_unread_check.specs.declared.fault.UnreadCheckFault.TheVariants.{BadNumber, Least, Most, OtherType}
use Rattle.cn_unread_check.proofs.verdict.check_unread.Goals as goal

pub returns-then-not-is_of_type-clause-refused :
    goal.returns-then-not-is_of_type-clause-refused
returns-then-not-is_of_type-clause-refused c =
    let merged = c.in_ok-merged in
    let named : c.args.certificate.now.type_name ≢ c.args.table.now.name = search rules in
    inr (other_type c.args.table.now merged.merged.table (c.tables_are_valid.ensures.table, (merged.merged.class_of.items, merged.ensures.merged)) c.args.certificate.now named)

pub returns-then-not-is_of_type-clause-passes :
    goal.returns-then-not-is_of_type-clause-passes
returns-then-not-is_of_type-clause-passes c =
    let merged = c.in_ok-merged in
    let named : c.args.certificate.now.type_name ≢ c.args.table.now.name = search rules in
    let first : IsFirstFault c.args.table.now c.args.certificate.now OtherType =
    other_type c.args.table.now merged.merged.table (c.tables_are_valid.ensures.table, (merged.merged.class_of.items, merged.ensures.merged)) c.args.certificate.now named in
    λ right. absurd (c.faults_are_wrong.ensures c.args.table.now c.args.certificate.now OtherType c.tables_are_valid-2.ensures.table first right)

pub returns-then-not-are_in_range-clause-refused :
    goal.returns-then-not-are_in_range-clause-refused
returns-then-not-are_in_range-clause-refused c =
    let merged = c.in_ok-merged in
    let named = c.is_of_type.ensures.0 c.if-not-is_of_type.false in
    let range : ¬ AreInRange c.args.certificate.now.at_least c.args.certificate.now.at_most = search rules in
    inr (bad_number c.args.table.now merged.merged.table (c.tables_are_valid.ensures.table, (merged.merged.class_of.items, merged.ensures.merged)) c.args.certificate.now named range)

pub returns-then-not-are_in_range-clause-passes :
    goal.returns-then-not-are_in_range-clause-passes
returns-then-not-are_in_range-clause-passes c =
    let merged = c.in_ok-merged in
    let named = c.is_of_type.ensures.0 c.if-not-is_of_type.false in
    let range : ¬ AreInRange c.args.certificate.now.at_least c.args.certificate.now.at_most = search rules in
    let first : IsFirstFault c.args.table.now c.args.certificate.now BadNumber =
    bad_number c.args.table.now merged.merged.table (c.tables_are_valid.ensures.table, (merged.merged.class_of.items, merged.ensures.merged)) c.args.certificate.now named range in
    λ right. absurd (c.faults_are_wrong.ensures c.args.table.now c.args.certificate.now BadNumber c.tables_are_valid-2.ensures.table first right)

pub returns-in-Some-false-clause-refused :
    goal.returns-in-Some-false-clause-refused
returns-in-Some-false-clause-refused c =
    let merged = c.in_ok-merged in
    let named = c.is_of_type.ensures.0 c.if-not-is_of_type.false in
    let range : AreInRange c.args.certificate.now.at_least c.args.certificate.now.at_most = search rules in
    let least : ¬ ShowsAtLeast merged.merged.table c.args.certificate.now.least c.args.certificate.now.at_least = search rules in
    inr (no_least c.args.table.now merged.merged.table (c.tables_are_valid.ensures.table, (merged.merged.class_of.items, merged.ensures.merged)) c.args.certificate.now named range least)

pub returns-in-Some-false-clause-passes :
    goal.returns-in-Some-false-clause-passes
returns-in-Some-false-clause-passes c =
    let merged = c.in_ok-merged in
    let named = c.is_of_type.ensures.0 c.if-not-is_of_type.false in
    let range : AreInRange c.args.certificate.now.at_least c.args.certificate.now.at_most = search rules in
    let least : ¬ ShowsAtLeast merged.merged.table c.args.certificate.now.least c.args.certificate.now.at_least = search rules in
    let first : IsFirstFault c.args.table.now c.args.certificate.now Least =
    no_least c.args.table.now merged.merged.table (c.tables_are_valid.ensures.table, (merged.merged.class_of.items, merged.ensures.merged)) c.args.certificate.now named range least in
    λ right. absurd (c.faults_are_wrong.ensures c.args.table.now c.args.certificate.now Least c.tables_are_valid-2.ensures.table first right)

pub returns-then-not-shows_at_most-clause-refused :
    goal.returns-then-not-shows_at_most-clause-refused
returns-then-not-shows_at_most-clause-refused c =
    let merged = c.in_ok-merged in
    let named = c.is_of_type.ensures.0 c.if-not-is_of_type.false in
    let range : AreInRange c.args.certificate.now.at_least c.args.certificate.now.at_most = search rules in
    let least : ShowsAtLeast merged.merged.table c.args.certificate.now.least c.args.certificate.now.at_least = search rules in
    let most : ¬ ShowsAtMost merged.merged.table c.args.certificate.now.most c.args.certificate.now.at_most = search rules in
    inr (no_most c.args.table.now merged.merged.table (c.tables_are_valid.ensures.table, (merged.merged.class_of.items, merged.ensures.merged)) c.args.certificate.now named range least most)

pub returns-then-not-shows_at_most-clause-passes :
    goal.returns-then-not-shows_at_most-clause-passes
returns-then-not-shows_at_most-clause-passes c =
    let merged = c.in_ok-merged in
    let named = c.is_of_type.ensures.0 c.if-not-is_of_type.false in
    let range : AreInRange c.args.certificate.now.at_least c.args.certificate.now.at_most = search rules in
    let least : ShowsAtLeast merged.merged.table c.args.certificate.now.least c.args.certificate.now.at_least = search rules in
    let most : ¬ ShowsAtMost merged.merged.table c.args.certificate.now.most c.args.certificate.now.at_most = search rules in
    let first : IsFirstFault c.args.table.now c.args.certificate.now Most =
    no_most c.args.table.now merged.merged.table (c.tables_are_valid.ensures.table, (merged.merged.class_of.items, merged.ensures.merged)) c.args.certificate.now named range least most in
    λ right. absurd (c.faults_are_wrong.ensures c.args.table.now c.args.certificate.now Most c.tables_are_valid-2.ensures.table first right)

pub returns-clause-bounds : goal.returns-clause-bounds
returns-clause-bounds c =
    let right : IsRight c.args.table.now c.args.certificate.now = search rules in
    c.accepted_bounds_hold.ensures c.args.table.now c.args.certificate.now right
