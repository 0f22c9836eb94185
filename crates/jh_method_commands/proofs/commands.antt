mod ScopeSteps
mod SideSteps
mod StatementSteps
mod CallSteps
mod LoopSteps
mod MethodSteps
mod OutlinedSteps
mod AlongSteps
