mod Answering
mod Led
