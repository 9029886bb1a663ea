use Rattle.std.proofs.Common.{refl}
use Rattle.ax_step_log.specs.Logging.{IsLogged, step as logged}
use Rattle.ax_step_claims.specs.Claiming.{IsClaiming, step as claiming}
use Rattle.ax_step_work.specs.Working.{IsWork, step as working}
use Rattle.ax_report.specs.Reports.{IsReport, step as reporting}
use Rattle.ax_machine.proofs.ByKind.{by-kind}
use Rattle.ax_machine.proofs.Known.{known-send, known-claim, known-extend, known-release, known-split, known-merge, known-fetch, known-rows, known-tokens}
use Rattle.ax_machine.proofs.steps.step.Goals as goal

pub step-requires-clause-command : goal.step-requires-clause-command
step-requires-clause-command c = rw c.in-Send.is (known-send c.args.world.now.tables.setting _ _ _ (rw c.in-Send.is at c.requires.known))

pub step-requires-in-Claim-clause-processor : goal.step-requires-in-Claim-clause-processor
step-requires-in-Claim-clause-processor c = rw c.in-Claim.is (known-claim c.args.world.now.tables.setting _ _ (rw c.in-Claim.is at c.requires.known))

pub step-requires-in-Extend-clause-processor : goal.step-requires-in-Extend-clause-processor
step-requires-in-Extend-clause-processor c = rw c.in-Extend.is (known-extend c.args.world.now.tables.setting _ _ (rw c.in-Extend.is at c.requires.known))

pub step-requires-in-Release-clause-processor : goal.step-requires-in-Release-clause-processor
step-requires-in-Release-clause-processor c = rw c.in-Release.is (known-release c.args.world.now.tables.setting _ _ (rw c.in-Release.is at c.requires.known))

pub step-requires-in-Split-clause-processor : goal.step-requires-in-Split-clause-processor
step-requires-in-Split-clause-processor c = rw c.in-Split.is (known-split c.args.world.now.tables.setting _ _ (rw c.in-Split.is at c.requires.known))

pub step-requires-in-Merge-clause-processor : goal.step-requires-in-Merge-clause-processor
step-requires-in-Merge-clause-processor c = rw c.in-Merge.is (known-merge c.args.world.now.tables.setting _ _ (rw c.in-Merge.is at c.requires.known))

pub step-requires-in-Fetch-clause-processor : goal.step-requires-in-Fetch-clause-processor
step-requires-in-Fetch-clause-processor c = rw c.in-Fetch.is (known-fetch c.args.world.now.tables.setting _ _ _ c.facts.ensures.setting (rw c.in-Fetch.is at c.requires.known))

pub step-requires-in-ShowRows-clause-processor : goal.step-requires-in-ShowRows-clause-processor
step-requires-in-ShowRows-clause-processor c = rw c.in-ShowRows.is (known-rows c.args.world.now.tables.setting _ c.facts.ensures.setting (rw c.in-ShowRows.is at c.requires.known))

pub step-requires-in-ShowTokens-clause-processor : goal.step-requires-in-ShowTokens-clause-processor
step-requires-in-ShowTokens-clause-processor c = rw c.in-ShowTokens.is (known-tokens c.args.world.now.tables.setting _ (rw c.in-ShowTokens.is at c.requires.known))

pub returns-in-Send : goal.returns-in-Send
returns-in-Send c = by-kind IsLogged logged c.args.world.now.tables c.args.actor c.step.result _ _ c.in-Send.is tt refl c.step.ensures

pub returns-in-Append : goal.returns-in-Append
returns-in-Append c = by-kind IsLogged logged c.args.world.now.tables c.args.actor c.step-in-Append.result _ _ c.in-Append.is tt refl c.step-in-Append.ensures

pub returns-in-Tick : goal.returns-in-Tick
returns-in-Tick c = by-kind IsLogged logged c.args.world.now.tables c.args.actor c.step-in-Tick.result _ _ c.in-Tick.is tt refl c.step-in-Tick.ensures

pub returns-in-Void : goal.returns-in-Void
returns-in-Void c = by-kind IsLogged logged c.args.world.now.tables c.args.actor c.step-in-Void.result _ _ c.in-Void.is tt refl c.step-in-Void.ensures

pub returns-in-Stop : goal.returns-in-Stop
returns-in-Stop c = by-kind IsLogged logged c.args.world.now.tables c.args.actor c.step-in-Stop.result _ _ c.in-Stop.is tt refl c.step-in-Stop.ensures

pub returns-in-Claim : goal.returns-in-Claim
returns-in-Claim c = by-kind IsClaiming claiming c.args.world.now.tables c.args.actor c.step-in-Claim.result _ _ c.in-Claim.is tt refl c.step-in-Claim.ensures

pub returns-in-Extend : goal.returns-in-Extend
returns-in-Extend c = by-kind IsClaiming claiming c.args.world.now.tables c.args.actor c.step-in-Extend.result _ _ c.in-Extend.is tt refl c.step-in-Extend.ensures

pub returns-in-Release : goal.returns-in-Release
returns-in-Release c = by-kind IsClaiming claiming c.args.world.now.tables c.args.actor c.step-in-Release.result _ _ c.in-Release.is tt refl c.step-in-Release.ensures

pub returns-in-Split : goal.returns-in-Split
returns-in-Split c = by-kind IsClaiming claiming c.args.world.now.tables c.args.actor c.step-in-Split.result _ _ c.in-Split.is tt refl c.step-in-Split.ensures

pub returns-in-Merge : goal.returns-in-Merge
returns-in-Merge c = by-kind IsClaiming claiming c.args.world.now.tables c.args.actor c.step-in-Merge.result _ _ c.in-Merge.is tt refl c.step-in-Merge.ensures

pub returns-in-Fetch : goal.returns-in-Fetch
returns-in-Fetch c = by-kind IsWork working c.args.world.now.tables c.args.actor c.step-in-Fetch.result _ _ c.in-Fetch.is tt refl c.step-in-Fetch.ensures

pub returns-in-Commit : goal.returns-in-Commit
returns-in-Commit c = by-kind IsWork working c.args.world.now.tables c.args.actor c.step-in-Commit.result _ _ c.in-Commit.is tt refl c.step-in-Commit.ensures

pub returns-in-ShowRows : goal.returns-in-ShowRows
returns-in-ShowRows c = by-kind IsReport reporting c.args.world.now.tables c.args.actor c.step-in-ShowRows.result _ _ c.in-ShowRows.is tt refl c.step-in-ShowRows.ensures

pub returns-in-ShowTokens : goal.returns-in-ShowTokens
returns-in-ShowTokens c = by-kind IsReport reporting c.args.world.now.tables c.args.actor c.step-in-ShowTokens.result _ _ c.in-ShowTokens.is tt refl c.step-in-ShowTokens.ensures

pub returns-in-ShowLog : goal.returns-in-ShowLog
returns-in-ShowLog c = by-kind IsReport reporting c.args.world.now.tables c.args.actor c.step-in-ShowLog.result _ _ c.in-ShowLog.is tt refl c.step-in-ShowLog.ensures
